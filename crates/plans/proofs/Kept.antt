-- What a list of entries that keeps the rules is known to be.
use Rattle.std.proofs.Common.{◌≡◌, ℕ, zero, suc, ◌+◌, ◌*◌, ◌<◌, ◌≤◌, Bool, true, cond, eqb, leb, ◌≢◌, List, [], ◌∷◌, ◌++◌, length, get_or, take, Ok, sym, ap, ◌∙◌, arith}
use Rattle.std.specs.List.{list_all}
use Rattle.std.proofs.lemmas.List.{append-nil, append_assoc, get_or-take, length-take-le}
use Rattle.std.proofs.lemmas.List.Elements.{All-get_or}
use Rattle.std.proofs.lemmas.List.Folds.{list_any_at}
use Rattle.std.proofs.lemmas.List.Sums.{AllPass-from_list_all}
use Rattle.std.proofs.lemmas.Bool.{eq-eqb, leb-true}
use Rattle.std.proofs.lemmas.Bool.Decides.{nat_tests}
use Rattle.fault.specs.declared.reason.Reason.{Reason}
use Rattle.fault.specs.declared.reason.Reason.TheVariants.{Index, Depth, Interleaving, Blocks, Alignment, Tiles}
use Rattle.fields.specs.Field.{check}
use Rattle.fields.proofs.Chains.{then_ok, check_ok}
use Rattle.choices.specs.declared.choice.Format.{Format}
use Rattle.choices.specs.declared.choice.Interleave.{Interleave}
use Rattle.choices.specs.declared.choice.Sampling.{Sampling}
use Rattle.choices.specs.declared.flags.Flags.{Flags}
use Rattle.configuration.specs.Entries.{blank}
use Rattle.configuration.specs.declared.entry.Entry.{Entry}
use Rattle.configuration.specs.declared.listing.Listing.{Listing}
use Rattle.configuration.specs.declared.listing.Sizes.{Sizes}
use Rattle.rules.specs.Entries.{Types, is_of, is_multi_y, lists, indexed, depth_fits, align_fits, deep}
use Rattle.rules.specs.Interleaving.{is_interleaved}
use Rattle.rules.specs.Packing.{fits_block, no_block_flags, blocks_fit, sizes_fit}
use Rattle.rules.specs.Rules.{each_keeps, broken, broken_at}
use Rattle.rules.specs.Tiles.{tiles_fit}
use Rattle.rules.specs.Whole.{list_kept}

-- each entry kept the rule, given those before it
kept_at : (keeps : List Entry → Entry → Bool) (why : Reason) (earlier es : List Entry) → each_keeps keeps why earlier es ≡ Ok tt
    → (m : ℕ) → m < length es → keeps (earlier ++ take m es) (get_or es m blank) ≡ true
kept_at keeps why earlier [] h m l = absurd (omega arith)
kept_at keeps why earlier (e ∷ es) h zero l =
    then_ok (check (keeps earlier e) (broken_at why (length earlier))) _ tt h (λ x c r.
    ap (λ before. keeps before e) (append-nil earlier) ∙ check_ok (keeps earlier e) _ x c)
kept_at keeps why earlier (e ∷ es) h (suc m) l =
    then_ok (check (keeps earlier e) (broken_at why (length earlier))) _ tt h (λ x c r.
    ap (λ before. keeps before (get_or es m blank)) (sym (append_assoc earlier (e ∷ []) (take m es)))
    ∙ kept_at keeps why (earlier ++ e ∷ []) es r m (omega arith))

pub each_at : (p : Entry → Bool) (es : List Entry) → list_all p es ≡ true → (n : ℕ) → n < length es → p (get_or es n blank) ≡ true
each_at p es h n l = All-get_or (λ e. p e ≡ true) es n blank l (AllPass-from_list_all p es h)

-- the numbers of an entry
pub record Held (block : ℕ) (e : Entry) : Type 0 where
  pub deep : e.depth_less_one + 1 ≤ 64
  pub align : e.align ≤ 8
  pub in_word : e.align ≢ 0 → e.depth_less_one + 1 ≤ 8 * e.align
  pub in_block : block ≢ 0 → e.depth_less_one + 1 ≤ 8 * block

depth_small : (f : Format) (d : ℕ) → depth_fits f d ≡ true → d ≤ 64
depth_small f d h = grind (arith, nat_tests)

align_small : (a d : ℕ) → align_fits a d ≡ true → (a ≤ 8) × (a ≢ 0 → d ≤ 8 * a)
align_small a d h = grind (arith, nat_tests)

-- what all entries of an accepted list keep
pub record Rules (types : Types) (s : Sampling) (v : Interleave) (block : ℕ) (z : Sizes) (es : List Entry) (w h : ℕ) : Type 0 where
  -- an index that is listed again is that of Y in interleave 5
  pub once : (n m : ℕ) → n < m → m < length es → (get_or es n blank).index ≡ (get_or es m blank).index
      → (is_multi_y v ≡ true) × (is_of types 1 (get_or es m blank) ≡ true)
  pub held : (n : ℕ) → n < length es → Held block (get_or es n blank)
  pub interleaved : is_interleaved types s v es ≡ true
  pub blocks : block ≤ 8
  pub sizes : sizes_fit v block z es ≡ true
  pub tiles : tiles_fit s z w h ≡ true

block_held : (block : ℕ) (f : Flags) (es : List Entry) → cond (eqb block 0) (no_block_flags f) (list_all (fits_block block) es) ≡ true
    → block ≢ 0 → (n : ℕ) → n < length es → (get_or es n blank).depth_less_one + 1 ≤ 8 * block
block_held block f es h z n l =
    let a : list_all (fits_block block) es ≡ true = grind (arith, nat_tests) in
    let b = each_at (fits_block block) es a n l in
    grind (arith, nat_tests)

pub rules_of : (types : Types) (l : Listing) (es : List Entry) (w h : ℕ) → list_kept types l es w h ≡ Ok tt
    → Rules types l.packing.sampling l.packing.interleave l.packing.block l.sizes es w h
rules_of types l es w h kept =
    then_ok (each_keeps (indexed types l.packing.interleave) Index [] es) _ tt kept (λ x0 a0 r0.
    then_ok (each_keeps (deep types) Depth [] es) _ tt r0 (λ x1 a1 r1.
    then_ok (check (is_interleaved types l.packing.sampling l.packing.interleave es) (broken Interleaving)) _ tt r1 (λ x2 a2 r2.
    then_ok (check (blocks_fit l.packing.block l.packing.flags es) (broken Blocks)) _ tt r2 (λ x3 a3 r3.
    then_ok (check (sizes_fit l.packing.interleave l.packing.block l.sizes es) (broken Alignment)) _ tt r3 (λ x4 a4 r4.
    record {
      once = first-once a0;
      held = helds a1 (block-parts (check_ok (blocks_fit l.packing.block l.packing.flags es) (broken Blocks) x3 a3));
      interleaved = check_ok (is_interleaved types l.packing.sampling l.packing.interleave es) (broken Interleaving) x2 a2;
      blocks = leb-true l.packing.block 8 (block-parts (check_ok (blocks_fit l.packing.block l.packing.flags es) (broken Blocks) x3 a3)).0;
      sizes = check_ok (sizes_fit l.packing.interleave l.packing.block l.sizes es) (broken Alignment) x4 a4;
      tiles = check_ok (tiles_fit l.packing.sampling l.sizes w h) (broken Tiles) tt r4;
    })))))
  where
    BlocksKept : Type 0
    BlocksKept = (leb l.packing.block 8 ≡ true)
        × (cond (eqb l.packing.block 0) (no_block_flags l.packing.flags) (list_all (fits_block l.packing.block) es) ≡ true)

    block-parts : blocks_fit l.packing.block l.packing.flags es ≡ true → BlocksKept
    block-parts k = (grind (arith, nat_tests), grind (arith, nat_tests))

    first-once : each_keeps (indexed types l.packing.interleave) Index [] es ≡ Ok tt
        → (n m : ℕ) → n < m → m < length es → (get_or es n blank).index ≡ (get_or es m blank).index
        → (is_multi_y l.packing.interleave ≡ true) × (is_of types 1 (get_or es m blank) ≡ true)
    first-once a n m q p e =
        let d = get_or es m blank in
        let k = kept_at (indexed types l.packing.interleave) Index [] es a m p in
        let before : lists d.index (take m es) ≡ true =
        list_any_at (λ x. eqb x.index d.index) (take m es) n blank (omega (arith, length-take-le m es (omega arith)))
        (eq-eqb _ _ (ap (λ (x : Entry). x.index) (get_or-take m es n blank q) ∙ e)) in
        (grind (arith, nat_tests), grind (arith, nat_tests))

    helds : each_keeps (deep types) Depth [] es ≡ Ok tt → BlocksKept → (n : ℕ) → n < length es → Held l.packing.block (get_or es n blank)
    helds a b n q =
        let d = get_or es n blank in
        let k = kept_at (deep types) Depth [] es a n q in
        let i = align_small d.align (d.depth_less_one + 1) (grind (arith, nat_tests)) in
        record {
          deep = depth_small d.format (d.depth_less_one + 1) (grind (arith, nat_tests));
          align = i.0;
          in_word = i.1;
          in_block = λ z. block_held l.packing.block l.packing.flags es b.1 z n q;
        }
