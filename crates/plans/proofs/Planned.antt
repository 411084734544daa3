-- The lines of an accepted layout fit together.
use Rattle.std.proofs.Common.{◌≡◌, ℕ, zero, suc, ◌+◌, ◌*◌, ◌/◌, ◌<◌, ◌≤◌, true, false, cond, eqb, leb, ◌≢◌, List, [], ◌∷◌, map, length, get_or, take, drop, sym, refl, ap, ◌∙◌, subst, div-one, arith, length-drop, length-take}
use mathlib.Core.List.{map-map}
use lib.ListN.{length-map}
use Rattle.std.specs.List.{AllByRecursion, list_all}
use Rattle.std.proofs.lemmas.List.{get_or-take, get_or-drop, get_or-map, take-map, drop-map}
use Rattle.std.proofs.ByRecursion.{All-from_get_or, All-map, All-take, All-drop}
use Rattle.std.proofs.lemmas.Bool.Decides.{nat_tests}
use Rattle.choices.specs.declared.choice.Interleave.{Interleave}
use Rattle.choices.specs.declared.choice.Interleave.TheVariants.{Component, Pixel, Mixed, Row, TileComponent, MultiY}
use Rattle.choices.specs.declared.choice.Sampling.{Sampling}
use Rattle.choices.specs.declared.component_type.ComponentType.{ComponentType}
use Rattle.choices.specs.declared.choice.Sampling.TheVariants.{Full}
use Rattle.choices.specs.declared.flags.Flags.{Flags}
use Rattle.configuration.specs.Entries.{blank}
use Rattle.configuration.specs.declared.entry.Entry.{Entry as Listed}
use Rattle.configuration.specs.declared.listing.Sizes.{Sizes}
use Rattle.rules.specs.Entries.{Types, is_multi_y}
use Rattle.rules.specs.Interleaving.{goes_with, yuv, is_yuv, list_fits, is_interleaved}
use Rattle.rules.specs.Interleaving as interleaving
use Rattle.rules.specs.Packing.{cell_of as listed_cell, sized, is_pixel, pixel_bytes}
use Rattle.placement.specs.Grid.{EvenRows}
use Rattle.placement.specs.Line.{run_bytes, Holds, CycleFits}
use Rattle.placement.specs.Line as line
use Rattle.placement.specs.Pack.{Cell, packed_end, Blocks, block_of, held, blocks_end}
use Rattle.placement.specs.Place.{Slot, Strip, no_slot, no_strip, grid, strip, cells, Alike, PlanFits}
use Rattle.plans.specs.Cells.{cell_of, slot_of, packing_of}
use Rattle.plans.specs.Entries.{rows_of, entry_for, no_entry}
use Rattle.plans.specs.Fit.{Small}
use Rattle.plans.specs.Views.{View, alone, strips_by, plan_of, packing_for}
use Rattle.plans.specs.declared.entry.Entry.{Entry}
use Rattle.plans.proofs.Kept.{Rules, each_at}

-- an interleave that does not go with the sampling 0 lists Y, U and V
pub unfull : (types : Types) (s : Sampling) (v : Interleave) (es : List Listed) → is_interleaved types s v es ≡ true → goes_with Full v ≡ false
    → (goes_with s v ≡ true) × (yuv types es ≡ true) × (list_fits types s v es ≡ true)
unfull types s v es k q = grind (arith, nat_tests)

-- a part of a cycle is alike where the cycle is
alike-drop : (k : ℕ) (xs : List Slot) → Alike xs → Alike (drop k xs)
alike-drop k xs a n m q p e = grind (arith, length-drop k xs, get_or-drop k xs n no_slot, get_or-drop k xs m no_slot, a (k + n) (k + m))

alike-take : (k : ℕ) (xs : List Slot) → Alike xs → Alike (take k xs)
alike-take k xs a n m q p e =
    let l = length-take k xs in
    grind (arith, get_or-take k xs n no_slot (omega arith), get_or-take k xs m no_slot (omega arith), a n m (omega arith) (omega arith))

alike_one : (x : Slot) → Alike (x ∷ [])
alike_one x zero zero q p e = refl
alike_one x zero (suc m) q p e = absurd (omega arith)
alike_one x (suc n) m q p e = absurd (omega arith)

-- how many blocks there are depends on their bytes alone
blocks_same : (a b : Blocks) → a.bytes ≡ b.bytes → (k o : ℕ) (es : List Cell) → blocks_end a k o es ≡ blocks_end b k o es
blocks_same a b e k o [] = refl
blocks_same a b e k o (x ∷ xs) =
    blocks_same a b e (block_of a k o x.depth) (held a o x.depth + x.depth) xs
    ∙ ap (λ (n : ℕ). blocks_end b (cond (leb (o + x.depth) (8 * n)) k (k + 1)) (cond (leb (o + x.depth) (8 * n)) o 0 + x.depth) xs) e

module _ (types : Types) (s : Sampling) (block : ℕ) (f : Flags) (z : Sizes) (es : List Listed) (w h : ℕ) where
  abbrev pub entry : Listed → Entry
  entry = entry_for types s w h

  abbrev pub view : Interleave → View
  view v =
      record {
        width = w;
        height = h;
        sampling = s;
        interleave = v;
        packing = packing_for block f z;
        tile_columns = z.tile_columns_less_one + 1;
        tile_rows = z.tile_rows_less_one + 1;
        entries = map entry es;
      }

  abbrev packing : line.Packing
  packing = packing_of (packing_for block f z)

  pub entry_at_lem : (n : ℕ) → n < length es → get_or (map entry es) n no_entry ≡ entry (get_or es n blank)
  entry_at_lem n q = get_or-map entry es n blank no_entry q

  pub slot_at : (n : ℕ) → n < length es → get_or (map slot_of (map entry es)) n no_slot ≡ slot_of (entry (get_or es n blank))
  slot_at n q =
      get_or-map slot_of (map entry es) n no_entry no_slot (omega (arith, length-map es entry)) ∙ ap slot_of (entry_at_lem n q)

  -- the strips of an interleave in which each entry has its own
  pub alone_at : (v : Interleave) (n : ℕ) → n < length es
      → get_or (map (alone (view v)) (map entry es)) n no_strip ≡ alone (view v) (entry (get_or es n blank))
  alone_at v n q =
      get_or-map (alone (view v)) (map entry es) n no_entry no_strip (omega (arith, length-map es entry)) ∙ ap (alone (view v)) (entry_at_lem n q)

  pub alone_count : (v : Interleave) → length (map (alone (view v)) (map entry es)) ≡ length es
  alone_count v = length-map (map entry es) (alone (view v)) ∙ length-map es entry

  pub small : {v : Interleave} → Rules types s v block z es w h → AllByRecursion (Small (packing_for block f z)) (map entry es)
  small r =
      All-map (Small (packing_for block f z)) entry es
      (All-from_get_or (λ e. Small (packing_for block f z) (entry e)) es blank
      (λ n q. let k = r.held n q in record { some = omega arith; few = k.deep; align = k.align; in_block = k.in_block }))

  holding : {v : Interleave} → Rules types s v block z es w h → AllByRecursion (λ e. Holds packing (cell_of e)) (map entry es)
  holding r =
      All-map (λ e. Holds packing (cell_of e)) entry es
      (All-from_get_or (λ e. Holds packing (cell_of (entry e))) es blank
      (λ n q. let k = r.held n q in record { some = omega arith; alone = λ _. k.in_word; in_block = k.in_block }))

  together_fits : (xs : List Entry) → AllByRecursion (λ e. Holds packing (cell_of e)) xs
      → (z.pixel_size ≢ 0 → run_bytes packing (map (λ t. t.cell) (map slot_of xs)) ≤ z.pixel_size)
      → CycleFits packing (map (λ t. t.cell) (map slot_of xs))
  together_fits xs a p =
      record {
        held = All-map (Holds packing) (λ t. t.cell) (map slot_of xs) (All-map (λ t. Holds packing t.cell) slot_of xs a);
        pixel = p;
      }

  no_pixel : (v : Interleave) → is_pixel v ≡ false → Rules types s v block z es w h → z.pixel_size ≡ 0
  no_pixel v q r =
      let a = r.sizes in
      grind (arith, nat_tests)

  -- the bytes of a pixel are those of a run
  pixel_same : run_bytes packing (map (λ t. t.cell) (map slot_of (map entry es))) ≡ pixel_bytes block es
  pixel_same =
      let cs = map listed_cell es in
      ap (run_bytes packing) (map-map (λ t. t.cell) slot_of (map entry es) ∙ map-map cell_of entry es)
      ∙ ap (λ (n : ℕ). cond (eqb block 0) ((packed_end 0 cs + 7) / 8) (n * block)) (blocks_same packing.blocks (sized block) refl 0 0 cs)

  pixel_fits_lem : (v : Interleave) → Rules types s v block z es w h → z.pixel_size ≢ 0 → pixel_bytes block es ≤ z.pixel_size
  pixel_fits_lem v r n =
      let a = r.sizes in
      grind (arith, nat_tests)

  dry : (v : Interleave) → is_pixel v ≡ false → Rules types s v block z es w h → (xs : List Entry) → AllByRecursion (λ e. Holds packing (cell_of e)) xs
      → CycleFits packing (map (λ t. t.cell) (map slot_of xs))
  dry v q r xs a = together_fits xs a (λ n. absurd (n (no_pixel v q r)))

  alone_cycles : (v : Interleave) → is_pixel v ≡ false → Rules types s v block z es w h → (g : ℕ) → g < length (map (alone (view v)) (map entry es))
      → CycleFits packing (map (λ t. t.cell) (get_or (map (alone (view v)) (map entry es)) g no_strip).cycle)
  alone_cycles v q r g l =
      let k : g < length es = omega (arith, alone_count v) in
      let b = r.held g k in
      subst (λ (x : Strip). CycleFits packing (map (λ t. t.cell) x.cycle)) (sym (alone_at v g k))
      (dry v q r (entry (get_or es g blank) ∷ []) (record { some = omega arith; alone = λ _. b.in_word; in_block = b.in_block }, tt))

  cycles : (v : Interleave) → Rules types s v block z es w h → (g : ℕ) → g < length (strips_by v (view v)) → CycleFits packing (cells (plan_of (view v)) g)
  cycles Component r g l = alone_cycles Component refl r g l
  cycles Pixel r zero l =
      together_fits (map entry es) (holding r) (λ n. subst (λ (x : ℕ). x ≤ z.pixel_size) (sym pixel_same) (pixel_fits_lem Pixel r n))
  cycles Pixel r (suc g) l = absurd (omega arith)
  cycles Mixed r zero l = dry Mixed refl r (take 1 (map entry es)) (All-take (λ e. Holds packing (cell_of e)) 1 (map entry es) (holding r))
  cycles Mixed r (suc zero) l = dry Mixed refl r (drop 1 (map entry es)) (All-drop (λ e. Holds packing (cell_of e)) 1 (map entry es) (holding r))
  cycles Mixed r (suc (suc g)) l = absurd (omega arith)
  cycles Row r g l = alone_cycles Row refl r g l
  cycles TileComponent r g l = alone_cycles TileComponent refl r g l
  cycles MultiY r zero l = dry MultiY refl r (map entry es) (holding r)
  cycles MultiY r (suc g) l = absurd (omega arith)

  -- outside interleave 5 no index is listed twice
  pub own : (v : Interleave) → is_multi_y v ≡ false → Rules types s v block z es w h → (n m : ℕ) → n < length es → m < length es
      → (get_or es n blank).index ≡ (get_or es m blank).index → n ≡ m
  own v q r n m i j e = grind (arith, nat_tests, r.once n m, r.once m n)

  abbrev SameDepth : Type 0
  SameDepth = (n m : ℕ) → n < length es → m < length es → (get_or es n blank).index ≡ (get_or es m blank).index
      → (get_or es n blank).depth_less_one ≡ (get_or es m blank).depth_less_one

  own_depth : (v : Interleave) → is_multi_y v ≡ false → Rules types s v block z es w h → SameDepth
  own_depth v q r n m i j e = grind (arith, own v q r n m i j e)

  many_depth : Rules types s MultiY block z es w h → SameDepth
  many_depth r n m i j e =
      let k = (unfull types s MultiY es r.interleaved refl).2 in
      let a : list_all (λ x. list_all (interleaving.alike x) es) es ≡ true = grind (arith, nat_tests) in
      let b = each_at (interleaving.alike (get_or es n blank)) es (each_at (λ x. list_all (interleaving.alike x) es) es a n i) m j in
      grind (arith, nat_tests)

  alike_all : SameDepth → Alike (map slot_of (map entry es))
  alike_all a n m q p e =
      let l : length (map slot_of (map entry es)) ≡ length es = length-map (map entry es) slot_of ∙ length-map es entry in
      grind (arith, slot_at n (omega arith), slot_at m (omega arith), a n m (omega arith) (omega arith))

  alone-alike : (v : Interleave) (g : ℕ) → g < length (map (alone (view v)) (map entry es))
      → Alike (get_or (map (alone (view v)) (map entry es)) g no_strip).cycle
  alone-alike v g l =
      subst (λ (x : Strip). Alike x.cycle) (sym (alone_at v g (omega (arith, alone_count v)))) (alike_one (slot_of (entry (get_or es g blank))))

  alikes : (v : Interleave) → Rules types s v block z es w h → (g : ℕ) → g < length (strips_by v (view v)) → Alike (strip (plan_of (view v)) g).cycle
  alikes Component r g l = alone-alike Component g l
  alikes Pixel r zero l = alike_all (own_depth Pixel refl r)
  alikes Pixel r (suc g) l = absurd (omega arith)
  alikes Mixed r zero l =
      subst Alike (take-map slot_of 1 (map entry es)) (alike-take 1 (map slot_of (map entry es)) (alike_all (own_depth Mixed refl r)))
  alikes Mixed r (suc zero) l =
      subst Alike (drop-map slot_of 1 (map entry es)) (alike-drop 1 (map slot_of (map entry es)) (alike_all (own_depth Mixed refl r)))
  alikes Mixed r (suc (suc g)) l = absurd (omega arith)
  alikes Row r g l = alone-alike Row g l
  alikes TileComponent r g l = alone-alike TileComponent g l
  alikes MultiY r zero l = alike_all (many_depth r)
  alikes MultiY r (suc g) l = absurd (omega arith)

  full_rows : (t : Sampling) → goes_with t Row ≡ true → (c : ComponentType) → rows_of t h c ≡ h
  full_rows t q c = grind (arith, nat_tests, div-one h)

  row_even : Rules types s Row block z es w h → (g : ℕ) → g < length es
      → (get_or (map (alone (view Row)) (map entry es)) g no_strip).rows ≡ h / (z.tile_rows_less_one + 1)
  row_even r g l =
      ap (λ (x : Strip). x.rows) (alone_at Row g l)
      ∙ ap (λ (n : ℕ). n / (z.tile_rows_less_one + 1))
      (full_rows s (let i = r.interleaved in grind (arith, nat_tests)) (entry (get_or es g blank)).component_type)

  even : (v : Interleave) → Rules types s v block z es w h → EvenRows (grid (plan_of (view v)))
  even Component r e g l = let no : ◌≡◌ {A = ℕ} 0 1 = cc in absurd (omega arith)
  even Pixel r e g l = let no : ◌≡◌ {A = ℕ} 0 1 = cc in absurd (omega arith)
  even Mixed r e g l = let no : ◌≡◌ {A = ℕ} 0 1 = cc in absurd (omega arith)
  even Row r e g l =
      let k = alone_count Row in
      row_even r g (omega arith) ∙ sym (row_even r 0 (omega arith))
  even TileComponent r e g l = let no : ◌≡◌ {A = ℕ} 0 1 = cc in absurd (omega arith)
  even MultiY r e g l = let no : ◌≡◌ {A = ℕ} 0 1 = cc in absurd (omega arith)

  pub plan_fits : (v : Interleave) → Rules types s v block z es w h → PlanFits (plan_of (view v))
  plan_fits v r = record { cycles = cycles v r; alike = alikes v r; even = even v r }
