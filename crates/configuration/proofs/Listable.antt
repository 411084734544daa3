-- What a configuration box of version 0 holds stands there as it is written, and what is written is read.
use Rattle.std.proofs.Common.{◌≡◌, ℕ, ◌+◌, ◌<◌, ◌≤◌, List, [], ◌∷◌, ◌++◌, length, get_or, Ok, refl, subst, arith}
use Rattle.fault.specs.declared.layer.Layer.TheVariants.{ConfigurationBox}
use Rattle.choices.specs.Choices.{format_of, format_number, sampling_of, sampling_number, interleave_of, interleave_number}
use Rattle.configuration.specs.Chosen.{choice_at}
use Rattle.configuration.specs.Encoded.{entry_bytes, packing_bytes, sizes_bytes}
use Rattle.configuration.specs.Entries.{entry_at}
use Rattle.fields.specs.Field.{byte, half, byte_at, half_at, word_at}
use Rattle.choices.specs.Flags.{flags_of, flags_byte}
use Rattle.configuration.specs.Listings.{packing_at, sizes_at}
use Rattle.fields.specs.Put.{half_bytes, word_bytes}
use Rattle.configuration.specs.RoundTrip.{WellEntered, WellSized}
use Rattle.configuration.specs.declared.entry.Entry.{Entry}
use Rattle.fields.specs.declared.item.Item.{Item}
use Rattle.configuration.specs.declared.listing.Packing.{Packing}
use Rattle.configuration.specs.declared.listing.Sizes.{Sizes}
use Rattle.configuration.proofs.Choosing.{choice_ok, choice_go}
use Rattle.fields.proofs.Chains.{then_ok, then_go, ok_same, field_ok, field_go}
use Rattle.fields.proofs.Lists.{Element, Read}
use Rattle.choices.proofs.Numbering.{format_number_lem, number_format, sampling_number_lem, number_sampling, interleave_number_lem, number_interleave, flags_number, number_flags}
use Rattle.fields.proofs.Opening.{word_read, word-found}
use Rattle.fields.proofs.Standing.{Stands, Bytes, join, first, second, byte_is, byte_stands, half_is, half-stands}

-- an entry is seen as it is
abbrev pub itself : Entry → Entry
itself e = e

module _ (xs : List ℕ) where
  -- a byte that is known stands
  pub known : (a n : ℕ) → a + 1 ≤ length xs → get_or xs a 0 ≡ n → Stands xs a (n ∷ [])
  known a n h e = subst (λ b. Stands xs a (b ∷ [])) e (byte_stands xs a h)

  -- four bytes that follow one another
  pub four : (a p q r s : ℕ) → Stands xs a (p ∷ []) → Stands xs (a + 1) (q ∷ []) → Stands xs (a + 2) (r ∷ []) → Stands xs (a + 3) (s ∷ []) → Stands xs a (p ∷ q ∷ r ∷ s ∷ [])
  four a p q r s hp hq hr hs =
      join xs a (a + 3) (p ∷ q ∷ r ∷ []) (s ∷ []) (join xs a (a + 2) (p ∷ q ∷ []) (r ∷ []) (join xs a (a + 1) (p ∷ []) (q ∷ []) hp hq refl) hr refl) hs refl

  -- the byte at an offset within what stands
  pub nth : (a b n : ℕ) (p q : List ℕ) → Stands xs a (p ++ (n ∷ q)) → b ≡ a + length p → (b + 1 ≤ length xs) × (get_or xs b 0 ≡ n)
  nth a b n p q s e =
      let t = second xs a b p (n ∷ q) s e in
      let fit = t.fits in
      (omega arith, byte_is xs b n q t)

  pub entry_read : (a : ℕ) (e : Entry) → WellEntered e → Stands xs a (entry_bytes e) → Read xs entry_at itself entry_bytes WellEntered a e
  entry_read a e w s =
      let h = first xs a (half_bytes e.index) (e.depth_less_one ∷ format_number e.format ∷ e.align ∷ []) s in
      let d = nth a (a + 2) e.depth_less_one (half_bytes e.index) _ s refl in
      let f = nth a (a + 3) (format_number e.format) (half_bytes e.index ++ (e.depth_less_one ∷ [])) _ s refl in
      let l = nth a (a + 4) e.align (half_bytes e.index ++ (e.depth_less_one ∷ format_number e.format ∷ [])) [] s refl in (
        e,
        then_go _ (field_go 2 half ConfigurationBox xs a e.index h.fits (half_is xs a e.index w.0 h))
            (then_go _ (field_go 1 byte ConfigurationBox xs (a + 2) e.depth_less_one d.0 d.1)
            (then_go _ (choice_go format_of format_number xs (a + 3) e.format (number_format e.format) f.0 f.1)
            (then_go _ (field_go 1 byte ConfigurationBox xs (a + 4) e.align l.0 l.1) refl))),
        refl,
      )

  pub packing_read : (a : ℕ) (p : Packing) → Stands xs a (packing_bytes p) → packing_at xs a ≡ Ok p
  packing_read a p s =
      let b0 = nth a a (sampling_number p.sampling) [] _ s (omega arith) in
      let b1 = nth a (a + 1) (interleave_number p.interleave) (sampling_number p.sampling ∷ []) _ s refl in
      let b2 = nth a (a + 2) p.block (sampling_number p.sampling ∷ interleave_number p.interleave ∷ []) _ s refl in
      let b3 = nth a (a + 3) (flags_byte p.flags) (sampling_number p.sampling ∷ interleave_number p.interleave ∷ p.block ∷ []) [] s refl in
      then_go _ (choice_go sampling_of sampling_number xs a p.sampling (number_sampling p.sampling) b0.0 b0.1)
      (then_go _ (choice_go interleave_of interleave_number xs (a + 1) p.interleave (number_interleave p.interleave) b1.0 b1.1)
      (then_go _ (field_go 1 byte ConfigurationBox xs (a + 2) p.block b2.0 b2.1)
      (then_go _ (choice_go flags_of flags_byte xs (a + 3) p.flags (number_flags p.flags).0 b3.0 b3.1) refl)))

  pub sizes_read : (a : ℕ) (s : Sizes) → WellSized s → Stands xs a (sizes_bytes s) → sizes_at xs a ≡ Ok s
  sizes_read a s w t =
      let w0 = word_bytes s.pixel_size in
      let w4 = word_bytes s.row_align in
      let w8 = word_bytes s.tile_align in
      let w12 = word_bytes s.tile_columns_less_one in
      let w16 = word_bytes s.tile_rows_less_one in
      let s16 = first xs a (w0 ++ w4 ++ w8 ++ w12) w16 t in
      let s12 = first xs a (w0 ++ w4 ++ w8) w12 s16 in
      let s8 = first xs a (w0 ++ w4) w8 s12 in
      then_go _ (word_read ConfigurationBox xs a s.pixel_size w.pixel (first xs a w0 w4 s8))
      (then_go _ (word_read ConfigurationBox xs (a + 4) s.row_align w.row (second xs a (a + 4) w0 w4 s8 refl))
      (then_go _ (word_read ConfigurationBox xs (a + 8) s.tile_align w.tile (second xs a (a + 8) (w0 ++ w4) w8 s12 refl))
      (then_go _ (word_read ConfigurationBox xs (a + 12) s.tile_columns_less_one w.columns (second xs a (a + 12) (w0 ++ w4 ++ w8) w12 s16 refl))
      (then_go _ (word_read ConfigurationBox xs (a + 16) s.tile_rows_less_one w.rows (second xs a (a + 16) (w0 ++ w4 ++ w8 ++ w12) w16 t refl)) refl))))

  module _ (o : Bytes xs) where
    pub entry-stands : (a : ℕ) (i : Item Entry) → entry_at xs a ≡ Ok i → Element xs entry_at itself entry_bytes WellEntered a i.next i.value
    entry-stands a i e =
        then_ok (half_at ConfigurationBox xs a) _ i e (λ index g0 e0.
        then_ok (byte_at ConfigurationBox xs (a + 2)) _ i e0 (λ depth g1 e1.
        then_ok (choice_at format_of xs (a + 3)) _ i e1 (λ format g2 e2.
        then_ok (byte_at ConfigurationBox xs (a + 4)) _ i e2 (λ align g3 e3.
        let is = ok_same _ i e3 in
        let f0 = field_ok 2 half ConfigurationBox xs a index g0 in
        let f1 = field_ok 1 byte ConfigurationBox xs (a + 2) depth g1 in
        let f2 = choice_ok format_of format_number (λ n x _. format_number_lem n x) xs (a + 3) format (o (a + 3)) g2 in
        let f3 = field_ok 1 byte ConfigurationBox xs (a + 4) align g3 in
        let b0 = o a in
        let b1 = o (a + 1) in
        let b2 = o (a + 2) in
        let b4 = o (a + 4) in
        let h0 = f0.1 in
        let h1 = f1.1 in
        let h3 = f3.1 in
        let s0 = subst (λ n. Stands xs a (half_bytes n)) f0.1 (half-stands xs o a f0.0) in
        let s1 = join xs a (a + 2) (half_bytes index) (depth ∷ []) s0 (known (a + 2) depth f1.0 f1.1) refl in
        let s2 = join xs a (a + 3) (half_bytes index ++ depth ∷ []) (format_number format ∷ []) s1 (known (a + 3) (format_number format) f2.0 f2.1) refl in
        let s3 = join xs a (a + 4) (half_bytes index ++ depth ∷ [] ++ format_number format ∷ []) (align ∷ []) s2 (known (a + 4) align f3.0 f3.1) refl in
        subst (λ z. Element xs entry_at itself entry_bytes WellEntered a z.next z.value) is (record {
          well = (omega arith, omega arith, omega arith);
          stands = s3;
          ends = refl;
        })))))

    pub packing-found : (a : ℕ) (p : Packing) → packing_at xs a ≡ Ok p → Stands xs a (packing_bytes p) × (p.block < 256)
    packing-found a p e =
        then_ok (choice_at sampling_of xs a) _ p e (λ sampling g0 e0.
        then_ok (choice_at interleave_of xs (a + 1)) _ p e0 (λ interleave g1 e1.
        then_ok (byte_at ConfigurationBox xs (a + 2)) _ p e1 (λ block g2 e2.
        then_ok (choice_at flags_of xs (a + 3)) _ p e2 (λ flags g3 e3.
        let is = ok_same _ p e3 in
        let f0 = choice_ok sampling_of sampling_number (λ n x _. sampling_number_lem n x) xs a sampling (o a) g0 in
        let f1 = choice_ok interleave_of interleave_number (λ n x _. interleave_number_lem n x) xs (a + 1) interleave (o (a + 1)) g1 in
        let f2 = field_ok 1 byte ConfigurationBox xs (a + 2) block g2 in
        let f3 = choice_ok flags_of flags_byte (λ n x. flags_number n x) xs (a + 3) flags (o (a + 3)) g3 in
        let b2 = o (a + 2) in
        let h2 = f2.1 in
        let s = four a _ _ _ _ (known a _ f0.0 f0.1) (known (a + 1) _ f1.0 f1.1) (known (a + 2) block f2.0 f2.1) (known (a + 3) _ f3.0 f3.1) in
        subst (λ z. Stands xs a (packing_bytes z) × (z.block < 256)) is (s, omega arith)))))

    pub sizes-found : (a : ℕ) (s : Sizes) → sizes_at xs a ≡ Ok s → Stands xs a (sizes_bytes s) × WellSized s
    sizes-found a s e =
        then_ok (word_at ConfigurationBox xs a) _ s e (λ pixel g0 e0.
        then_ok (word_at ConfigurationBox xs (a + 4)) _ s e0 (λ row g1 e1.
        then_ok (word_at ConfigurationBox xs (a + 8)) _ s e1 (λ tile g2 e2.
        then_ok (word_at ConfigurationBox xs (a + 12)) _ s e2 (λ columns g3 e3.
        then_ok (word_at ConfigurationBox xs (a + 16)) _ s e3 (λ rows g4 e4.
        let is = ok_same _ s e4 in
        let f0 = word-found ConfigurationBox xs o a pixel g0 in
        let f1 = word-found ConfigurationBox xs o (a + 4) row g1 in
        let f2 = word-found ConfigurationBox xs o (a + 8) tile g2 in
        let f3 = word-found ConfigurationBox xs o (a + 12) columns g3 in
        let f4 = word-found ConfigurationBox xs o (a + 16) rows g4 in
        let s1 = join xs a (a + 4) (word_bytes pixel) (word_bytes row) f0.0 f1.0 refl in
        let s2 = join xs a (a + 8) (word_bytes pixel ++ word_bytes row) (word_bytes tile) s1 f2.0 refl in
        let s3 = join xs a (a + 12) (word_bytes pixel ++ word_bytes row ++ word_bytes tile) (word_bytes columns) s2 f3.0 refl in
        let s4 = join xs a (a + 16) (word_bytes pixel ++ word_bytes row ++ word_bytes tile ++ word_bytes columns) (word_bytes rows) s3 f4.0 refl in
        subst (λ z. Stands xs a (sizes_bytes z) × WellSized z) is
        (s4, record { pixel = f0.1; row = f1.1; tile = f2.1; columns = f3.1; rows = f4.1 }))))))
