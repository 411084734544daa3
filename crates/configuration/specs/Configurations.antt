-- The configuration box.
use Rattle.std.specs.Prelude.{ℕ, ◌-◌, List, length, Ok, Result, ◌==◌}
use Rattle.fault.specs.Faults.{fault}
use Rattle.fault.specs.declared.fault.Fault.{Fault}
use Rattle.fault.specs.declared.layer.Layer.{Layer}
use Rattle.fault.specs.declared.layer.Layer.TheVariants.{ConfigurationBox}
use Rattle.fault.specs.declared.reason.Reason.TheVariants.{Extent, Version}
use Rattle.configuration.specs.Chosen.{reserved_at}
use Rattle.fields.specs.Field.{then, check, accepted, field, three, byte_at, word_at}
use Rattle.fields.specs.Header.{header_of}
use Rattle.configuration.specs.Forms.{form_of}
use Rattle.configuration.specs.declared.form.Form.{Form}
use Rattle.configuration.specs.declared.form.Form.TheVariants.{Long, Short}
use Rattle.configuration.specs.Listings.{listing_by}
use Rattle.configuration.specs.Profiles.{profile_of, profile_listing}
use Rattle.configuration.specs.declared.listing.Listing.{Listing}
use Rattle.configuration.specs.declared.configuration.Opening.{Opening}
use Rattle.configuration.specs.declared.configuration.Configuration.{Configuration}
use Rattle.configuration.specs.declared.configuration.Configuration.TheVariants.{Listed, Brief}

-- a version byte, three flag bytes and a 32-bit profile
abbrev pub opening_of : List ℕ → Result Opening Fault
opening_of xs =
    then (byte_at ConfigurationBox xs 8) (λ version.
    then (accepted (form_of version) (fault Version ConfigurationBox 8)) (λ form.
    then (field 3 three ConfigurationBox xs 9) (λ flags.
    then (check (flags == 0) (fault Version ConfigurationBox 9)) (λ _.
    then (word_at ConfigurationBox xs 12) (λ profile.
    Ok (record { form = form; profile = profile; left = length xs - 16 }))))))

-- version 1 knows three words, and the box ends after its word
abbrev pub brief_of : ℕ → ℕ → Result Configuration Fault
brief_of profile left =
    then (accepted (profile_of profile) (reserved_at 12)) (λ word.
    then (check (left == 0) (fault Extent ConfigurationBox 16)) (λ _.
    Ok (Brief word)))

-- version 0 goes on with a list
abbrev pub listed_by : ℕ → Layer → List ℕ → Result Configuration Fault
listed_by profile who xs = then (listing_by profile who xs) (λ listing. Ok (Listed listing))

abbrev pub listed_of : ℕ → List ℕ → Result Configuration Fault
listed_of profile = listed_by profile ConfigurationBox

-- the type word uncC
abbrev pub uncc : ℕ
uncc = 0x756e_6343

-- what a box of each form says
abbrev pub by_form : {A : Type 0} → Form → A → A → A
by_form Short brief listed = brief
by_form Long brief listed = listed

abbrev pub read_configuration : List ℕ → Result Configuration Fault
read_configuration xs =
    then (header_of ConfigurationBox uncc xs) (λ _.
    then (opening_of xs) (λ opening.
    by_form opening.form (brief_of opening.profile opening.left) (listed_of opening.profile xs)))

-- the list, or the one that the word stands for
abbrev pub listing_for : Configuration → Listing
listing_for (Listed l) = l
listing_for (Brief p) = profile_listing p
