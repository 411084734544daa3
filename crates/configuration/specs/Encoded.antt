-- The bytes of a configuration box.
use Rattle.std.specs.Prelude.{ℕ, List, [], ◌∷◌, ◌++◌, length}
use Rattle.std.specs.List.{flat_map}
use Rattle.choices.specs.Choices.{format_number, sampling_number, interleave_number}
use Rattle.configuration.specs.Configurations.{uncc}
use Rattle.choices.specs.Flags.{flags_byte}
use Rattle.configuration.specs.Profiles.{profile_word}
use Rattle.fields.specs.Items.{items}
use Rattle.fields.specs.Put.{half_bytes, word_bytes, boxed}
use Rattle.configuration.specs.declared.configuration.Configuration.{Configuration}
use Rattle.configuration.specs.declared.configuration.Configuration.TheVariants.{Listed, Brief}
use Rattle.configuration.specs.declared.entry.Entry.{Entry}
use Rattle.configuration.specs.declared.listing.Listing.{Listing}
use Rattle.configuration.specs.declared.listing.Packing.{Packing}
use Rattle.configuration.specs.declared.listing.Sizes.{Sizes}

abbrev pub entry_bytes : Entry → List ℕ
entry_bytes e = half_bytes e.index ++ (e.depth_less_one ∷ format_number e.format ∷ e.align ∷ [])

abbrev pub packing_bytes : Packing → List ℕ
packing_bytes p = sampling_number p.sampling ∷ interleave_number p.interleave ∷ p.block ∷ flags_byte p.flags ∷ []

abbrev pub sizes_bytes : Sizes → List ℕ
sizes_bytes s =
    word_bytes s.pixel_size ++ word_bytes s.row_align ++ word_bytes s.tile_align
    ++ word_bytes s.tile_columns_less_one ++ word_bytes s.tile_rows_less_one

-- the entries that are listed
abbrev pub listed : Listing → List Entry
listed l = items l.entries

-- a version byte and three flag bytes
abbrev pub version_bytes : ℕ → List ℕ
version_bytes v = v ∷ 0 ∷ 0 ∷ 0 ∷ []

abbrev pub listing_bytes : Listing → List ℕ
listing_bytes l =
    version_bytes 0 ++ word_bytes l.profile ++ word_bytes (length (listed l)) ++ flat_map entry_bytes (listed l)
    ++ packing_bytes l.packing ++ sizes_bytes l.sizes

-- what the configuration box holds after its type word
abbrev pub configuration_body : Configuration → List ℕ
configuration_body (Listed l) = listing_bytes l
configuration_body (Brief p) = version_bytes 1 ++ word_bytes (profile_word p)

abbrev pub configuration_bytes : Configuration → List ℕ
configuration_bytes c = boxed uncc (configuration_body c)
