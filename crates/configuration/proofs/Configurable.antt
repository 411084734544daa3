-- A configuration box is accepted exactly if it is the writing of a well-formed configuration.
use Rattle.std.proofs.Common.{◌≡◌, ℕ, ◌+◌, ◌-◌, ◌^◌, ◌<◌, ◌≤◌, true, eqb, leb, List, [], ◌∷◌, ◌++◌, map, length, replicate, Ok, Result, sym, refl, ap, ◌∙◌, subst, arith, lit<, eq-eqb, eqb-true, le-leb, leb-true}
use Rattle.std.proofs.lemmas.List.{map-id, length-append, length-replicate, length-take, length-take-le}
use Rattle.std.specs.List.{flat_map, AllByRecursion}
use Rattle.fault.specs.Faults.{fault}
use Rattle.fault.specs.declared.fault.Fault.{Fault}
use Rattle.fault.specs.declared.layer.Layer.TheVariants.{ConfigurationBox}
use Rattle.fault.specs.declared.reason.Reason.TheVariants.{Extent, Version}
use Rattle.configuration.specs.Configurations.{uncc, opening_of, by_form, brief_of, listed_of, read_configuration}
use Rattle.configuration.specs.Encoded.{entry_bytes, packing_bytes, sizes_bytes, listed, listing_bytes, version_bytes, configuration_bytes}
use Rattle.configuration.specs.Entries.{blank, entry_at}
use Rattle.configuration.specs.Chosen.{reserved_at}
use Rattle.fields.specs.Field.{then, check, accepted, field, byte, three, byte_at, word_at}
use Rattle.fields.specs.Header.{header_of, count_at, end_at}
use Rattle.fields.specs.Items.{items_from, items, padded, tabled, list_at}
use Rattle.configuration.specs.Forms.{form_of, form_number}
use Rattle.configuration.specs.declared.form.Form.{Form}
use Rattle.configuration.specs.declared.form.Form.TheVariants.{Long, Short}
use Rattle.configuration.specs.Listings.{packing_at, sizes_at, listing_of}
use Rattle.configuration.specs.Profiles.{profile_of, profile_word}
use Rattle.fields.specs.Put.{word_bytes}
use Rattle.configuration.specs.RoundTrip.{WellEntered, WellListed, WellConfigured, ConfigurationExact, ConfigurationBack}
use Rattle.configuration.specs.declared.configuration.Configuration.{Configuration}
use Rattle.configuration.specs.declared.configuration.Configuration.TheVariants.{Listed, Brief}
use Rattle.configuration.specs.declared.configuration.Opening.{Opening}
use Rattle.configuration.specs.declared.listing.Listing.{Listing}
use Rattle.configuration.specs.declared.profile.Profile.{Profile}
use Rattle.configuration.specs.declared.profile.Profile.TheVariants.{Rgb3, Rgba, Abgr}
use Rattle.fields.proofs.Chains.{then_ok, then_go, ok_same, check_ok, check_go, accepted_ok, accepted_go, field_ok, field_go}
use Rattle.configuration.proofs.Entering.{length_entries, length-listing}
use Rattle.configuration.proofs.Listable.{itself, four, known, nth, entry-stands, entry_read, packing-found, packing_read, sizes-found, sizes_read}
use Rattle.fields.proofs.Lists.{items_stand, items_read}
use Rattle.configuration.proofs.Numbering.{profile_word_lem, word_profile, form_number_lem, number_form}
use Rattle.fields.proofs.Opening.{Head, take-padded, opened, closed, header_read, header-found, word_read, word-found, count_read, count-found}
use Rattle.fields.proofs.Standing.{Stands, Bytes, octets, join, first, second}

word_small : (p : Profile) → profile_word p < 2 ^ 32
word_small Rgb3 = lit< tt
word_small Rgba = lit< tt
word_small Abgr = lit< tt

module _ (xs : List ℕ) where
  -- version, flags and profile stand at the start of what the box holds
  abbrev Begins : ℕ → ℕ → Type 0
  Begins version profile = Stands xs 8 (version_bytes version ++ word_bytes profile)

  opening_read : (form : Form) (profile : ℕ) → profile < 2 ^ 32 → Begins (form_number form) profile → opening_of xs ≡ Ok (record { form = form; profile = profile; left = length xs - 16 })
  opening_read form profile p s =
      let version = form_number form in
      let b0 = nth xs 8 8 version [] _ s refl in
      let b1 = nth xs 8 9 0 (version ∷ []) _ s refl in
      let b2 = nth xs 8 10 0 (version ∷ 0 ∷ []) _ s refl in
      let b3 = nth xs 8 11 0 (version ∷ 0 ∷ 0 ∷ []) (word_bytes profile) s refl in
      let e1 = b1.1 in
      let e2 = b2.1 in
      let e3 = b3.1 in
      let closing : ℕ → Result Opening Fault = λ z. Ok (record { form = form; profile = z; left = length xs - 16 }) in
      then_go _ (field_go 1 byte ConfigurationBox xs 8 version b0.0 b0.1)
      (then_go _ (accepted_go (fault Version ConfigurationBox 8) (number_form form))
      (then_go _ (field_go 3 three ConfigurationBox xs 9 0 b3.0 (omega arith))
      (then_go (λ _. then (word_at ConfigurationBox xs 12) closing) (check_go (fault Version ConfigurationBox 9) refl)
      (then_go closing (word_read ConfigurationBox xs 12 profile p (second xs 8 12 (version_bytes version) (word_bytes profile) s refl)) refl))))

  listing_read : (l : Listing) → WellListed l → Stands xs 8 (listing_bytes l) → 8 + length (listing_bytes l) ≡ length xs → listing_of l.profile xs ≡ Ok l
  listing_read l w s end =
      let es = listed l in
      let js = flat_map entry_bytes es in
      let v = version_bytes 0 in
      let w12 = word_bytes l.profile in
      let w16 = word_bytes (length es) in
      let p = packing_bytes l.packing in
      let z = sizes_bytes l.sizes in
      let n = length_entries es in
      let k = length-listing l in
      let few = w.few in
      let sixteen : 16 ≤ length l.entries.slots = omega (arith, ap length w.table, length-append es (replicate (16 - length es) blank), length-replicate (16 - length es) blank) in
      let sp = first xs 8 (v ++ w12 ++ w16 ++ js ++ p) z s in
      let sj = first xs 8 (v ++ w12 ++ w16 ++ js) p sp in
      let s16 = first xs 8 (v ++ w12 ++ w16) js sj in
      let count : length es ≡ l.entries.count = length-take-le l.entries.count l.entries.slots (omega arith) in
      let r = items_read xs entry_at itself entry_bytes WellEntered (entry_read xs) es 20 w.each (second xs 8 20 (v ++ w12 ++ w16) js sj refl) in
      let vs : r.0 ≡ es = sym (map-id r.0) ∙ r.2 in
      let at : 20 + length js ≡ 8 + length (v ++ w12 ++ w16 ++ js) = omega arith in
      let past = length-append (v ++ w12 ++ w16 ++ js) p in
      let last : leb (length xs) (20 + length js + 24) ≡ true = le-leb _ _ (omega arith) in
      let table : padded blank r.0 ≡ l.entries.slots = ap (padded blank) vs ∙ sym w.table in
      then_go _
      (then_go (λ n. then (items_from entry_at n xs 20) (λ vs. Ok (tabled blank n vs))) (count_read ConfigurationBox xs 16 (length es) (omega (arith, w.some)) (omega arith) (second xs 8 16 (v ++ w12) w16 s16 refl))
      (then_go (λ vs. Ok (tabled blank (length es) vs)) r.1 refl))
      (then_go _ (packing_read xs (20 + length js) l.packing (second xs 8 (20 + length js) (v ++ w12 ++ w16 ++ js) p sp at))
      (then_go _ (sizes_read xs (20 + length js + 4) l.sizes w.sizes (second xs 8 (20 + length js + 4) (v ++ w12 ++ w16 ++ js ++ p) z s (omega arith)))
      (then_go _ (check_go (fault Extent ConfigurationBox (20 + length js + 24)) last)
      (λ i. Ok (record { profile = l.profile; entries = record { count = count i; slots = table i }; packing = l.packing; sizes = l.sizes })))))

  module _ (o : Bytes xs) where
    opening-found : (p : Opening) → opening_of xs ≡ Ok p → Begins (form_number p.form) p.profile × (p.profile < 2 ^ 32) × (p.left ≡ length xs - 16)
    opening-found p e =
        then_ok (byte_at ConfigurationBox xs 8) _ p e (λ version g0 e0.
        then_ok (accepted (form_of version) (fault Version ConfigurationBox 8)) _ p e0 (λ form g1 e1.
        then_ok (field 3 three ConfigurationBox xs 9) _ p e1 (λ flags g2 e2.
        then_ok (check (eqb flags 0) (fault Version ConfigurationBox 9)) _ p e2 (λ v g3 e3.
        then_ok (word_at ConfigurationBox xs 12) _ p e3 (λ profile g4 e4.
        let is = ok_same _ p e4 in
        let f0 = field_ok 1 byte ConfigurationBox xs 8 version g0 in
        let f2 = field_ok 3 three ConfigurationBox xs 9 flags g2 in
        let f4 = word-found ConfigurationBox xs o 12 profile g4 in
        let zero = eqb-true flags 0 (check_ok _ _ v g3) in
        let sum = f2.1 in
        let fit = f2.0 in
        let s = four xs 8 version 0 0 0 (known xs 8 version f0.0 f0.1) (known xs 9 0 (omega arith) (omega arith)) (known xs 10 0 (omega arith) (omega arith)) (known xs 11 0 (omega arith) (omega arith)) in
        let number = form_number_lem version form (accepted_ok _ (fault Version ConfigurationBox 8) form g1) in
        let begins : Begins version profile = join xs 8 12 (version_bytes version) (word_bytes profile) s f4.0 refl in
        subst (λ z. Begins (form_number z.form) z.profile × (z.profile < 2 ^ 32) × (z.left ≡ length xs - 16)) is
        (subst (λ k. Begins k profile) (sym number) begins, f4.1, refl))))))

    -- what listing_of answers stands in the box, up to its end
    listing-written : (profile : ℕ) (l : Listing) → profile < 2 ^ 32 → Begins 0 profile → listing_of profile xs ≡ Ok l → WellListed l × Stands xs 8 (listing_bytes l) × (8 + length (listing_bytes l) ≡ length xs)
    listing-written profile l small begins e =
        then_ok (list_at blank entry_at ConfigurationBox xs 16) _ l e (λ list g1 e1.
        then_ok (packing_at xs list.next) _ l e1 (λ packing g2 e2.
        then_ok (sizes_at xs (list.next + 4)) _ l e2 (λ sizes g3 e3.
        then_ok (end_at ConfigurationBox (length xs) (list.next + 24)) _ l e3 (λ u g4 e4.
        then_ok (count_at ConfigurationBox xs 16) _ list g1 (λ n g0 e0.
        then_ok (items_from entry_at n xs 20) _ list e0 (λ vs g5 e5.
        let is = ok_same _ l e4 in
        let count = count-found ConfigurationBox xs o 16 n g0 in
        let fit = count.2.fits in
        let made : tabled blank n vs ≡ list = ok_same _ list e5 in
        let ms = items_stand xs entry_at itself entry_bytes WellEntered (entry-stands xs o) n 20 vs fit g5 in
        let es = vs.value in
        let idem : map itself es ≡ es = map-id es in
        let many : length es ≡ n = sym (ap length idem) ∙ ms.count in
        let js = flat_map entry_bytes es in
        let standing : Stands xs 20 js = subst (λ z. Stands xs 20 (flat_map entry_bytes z)) idem ms.stands in
        let ends : vs.next ≡ 20 + length js = ms.ends ∙ ap (λ z. 20 + length (flat_map entry_bytes z)) idem in
        let at : list.next ≡ 20 + length js = ap (λ t. t.next) (sym made) ∙ ends in
        let first-es : items list.value ≡ es = ap (λ t. items t.value) (sym made) ∙ take-padded blank es n many in
        let p = packing-found xs o list.next packing g2 in
        let z = sizes-found xs o (list.next + 4) sizes g3 in
        let front = version_bytes 0 ++ word_bytes profile in
        let w16 = word_bytes (length es) in
        let s16 = join xs 8 16 front w16 begins (subst (λ k. Stands xs 16 (word_bytes k)) (sym many) count.2) refl in
        let s20 = join xs 8 20 (front ++ w16) js s16 standing refl in
        let sp = join xs 8 list.next (front ++ w16 ++ js) (packing_bytes packing) s20 p.0 (omega arith) in
        let past = length-append (front ++ w16 ++ js) (packing_bytes packing) in
        let sz = join xs 8 (list.next + 4) (front ++ w16 ++ js ++ packing_bytes packing) (sizes_bytes sizes) sp z.0 (omega arith) in
        let stop = leb-true _ _ (check_ok _ _ u g4) in
        let whole-fits = sz.fits in
        let whole_length = length-append (front ++ w16 ++ js ++ packing_bytes packing) (sizes_bytes sizes) in
        let m : Listing = record { profile = profile; entries = list.value; packing = packing; sizes = sizes } in
        let same : listing_bytes m ≡ front ++ w16 ++ js ++ packing_bytes packing ++ sizes_bytes sizes = ap (λ t. front ++ word_bytes (length t) ++ flat_map entry_bytes t ++ packing_bytes packing ++ sizes_bytes sizes) first-es in
        let number : list.value.count ≡ n = ap (λ t. t.value.count) (sym made) in
        subst (λ k. WellListed k × Stands xs 8 (listing_bytes k) × (8 + length (listing_bytes k) ≡ length xs)) is (
          record {
            some = omega (arith, count.0);
            few = omega (arith, count.1);
            table = ap (λ t. t.value.slots) (sym made) ∙ ap (padded blank) (sym first-es);
            each = subst (λ t. AllByRecursion WellEntered t) (sym first-es) (subst (λ t. AllByRecursion WellEntered t) idem ms.well);
            profile = small;
            block = p.1;
            sizes = z.1;
          },
          subst (Stands xs 8) (sym same) sz,
          ap (λ t. 8 + length t) same ∙ omega arith,
        )))))))

    configuration-written : (c : Configuration) → read_configuration xs ≡ Ok c → WellConfigured c × (configuration_bytes c ≡ xs)
    configuration-written c e =
        then_ok (header_of ConfigurationBox uncc xs) _ c e (λ u g0 e0.
        then_ok (opening_of xs) _ c e0 (λ p g1 e1.
        let head = header-found ConfigurationBox xs o uncc u g0 in
        let f = opening-found p g1 in
        go p.form p.profile p.left head.0 f.0 f.1 f.2 e1))
      where
        go : (form : Form) (profile left : ℕ) → Head ConfigurationBox xs uncc → Begins (form_number form) profile → profile < 2 ^ 32 → left ≡ length xs - 16 → by_form form (brief_of profile left) (listed_of profile xs) ≡ Ok c → WellConfigured c × (configuration_bytes c ≡ xs)
        go Short profile left head begins small rest h =
            then_ok (accepted (profile_of profile) (reserved_at 12)) _ c h (λ word g0 h0.
            then_ok (check (eqb left 0) (fault Extent ConfigurationBox 16)) _ c h0 (λ u g1 h1.
            let w : profile ≡ profile_word word = sym (profile_word_lem profile word (accepted_ok _ (reserved_at 12) word g0)) in
            let none = eqb-true left 0 (check_ok _ _ u g1) in
            let fit = begins.fits in
            subst (λ z. WellConfigured z × (configuration_bytes z ≡ xs)) (ok_same _ c h1)
            (tt, closed ConfigurationBox xs uncc (version_bytes 1 ++ word_bytes (profile_word word)) head (subst (Begins 1) w begins) (omega arith))))
        go Long profile left head begins small rest h =
            then_ok (listing_of profile xs) _ c h (λ l g0 h0.
            let r = listing-written profile l small begins g0 in
            subst (λ z. WellConfigured z × (configuration_bytes z ≡ xs)) (ok_same _ c h0)
            (r.0, closed ConfigurationBox xs uncc (listing_bytes l) head r.1 r.2))

  pub configuration_read : (c : Configuration) → WellConfigured c → configuration_bytes c ≡ xs → read_configuration xs ≡ Ok c
  configuration_read (Brief p) w e =
      let s = opened ConfigurationBox xs uncc (version_bytes 1 ++ word_bytes (profile_word p)) e in
      let n = ap length e in
      let none : length xs - 16 ≡ 0 = omega arith in
      then_go _ (header_read ConfigurationBox xs uncc (lit< tt) (omega arith) s.0)
      (then_go _ (opening_read Short (profile_word p) (word_small p) s.1)
      (then_go _ (accepted_go (reserved_at 12) (word_profile p))
      (then_go (λ _. Ok (Brief p)) (check_go (fault Extent ConfigurationBox 16) (eq-eqb (length xs - 16) 0 none)) refl)))
  configuration_read (Listed l) w e =
      let s = opened ConfigurationBox xs uncc (listing_bytes l) e in
      let n = ap length e in
      let k = length-listing l in
      let few = w.few in
      let front = version_bytes 0 ++ word_bytes l.profile in
      let w16 = word_bytes (length (listed l)) in
      let js = flat_map entry_bytes (listed l) in
      let p = packing_bytes l.packing in
      let many = length-take l.entries.count l.entries.slots in
      let begins = first xs 8 front w16 (first xs 8 (front ++ w16) js (first xs 8 (front ++ w16 ++ js) p (first xs 8 (front ++ w16 ++ js ++ p) (sizes_bytes l.sizes) s.1))) in
      then_go _ (header_read ConfigurationBox xs uncc (lit< tt) (omega arith) s.0)
      (then_go _ (opening_read Long l.profile w.profile begins)
      (then_go (λ l. Ok (Listed l)) (listing_read l w s.1 (omega arith)) refl))

  pub configuration_exact : Bytes xs → ConfigurationExact xs (read_configuration xs)
  configuration_exact o = record { written = configuration-written o; accepted = configuration_read }

pub configuration_back : (c : Configuration) → ConfigurationBack c
configuration_back c =
    record {
      same = λ xs w e. (configuration-written xs (octets xs w) c e).1;
      again = λ w. configuration_read (configuration_bytes c) c w refl;
    }
