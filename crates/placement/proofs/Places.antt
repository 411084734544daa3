-- The places of a frame have bits of their own.
use Rattle.std.proofs.Common.{◌≡◌, ℕ, zero, suc, ◌+◌, ◌-◌, ◌*◌, ◌/◌, ◌%◌, ◌<◌, List, [], ◌∷◌, length, get_or, sym, ap, ◌∙◌, subst, mod-lt, mul-zero, div-add-mod', arith}
use lib.Arith.{digits_lt}
use lib.ListN.{length-map}
use Rattle.std.proofs.ByRecursion.{All-get_or}
use Rattle.std.proofs.lemmas.List.{get_or-map}
use Rattle.std.proofs.lemmas.Nat.{div_below}
use Rattle.std.proofs.lemmas.Bool.Decides.{nat_tests}
use Rattle.placement.specs.Word.{Whole, spot}
use Rattle.placement.specs.Pack.{Cell}
use Rattle.placement.specs.Line.{Holds, line_word, line_bytes, LineSound}
use Rattle.placement.specs.Grid.{start, frame_bytes, Inside, GridSound}
use Rattle.placement.specs.declared.place.Place.{Place}
use Rattle.placement.specs.Place.{Slot, Strip, Plan, no_slot, no_strip, times, nth, strip_with, strip, cells, grid, home, often, wide, high, depth_of, tile_at, line_at, turn_at, slot_at, word_of, Valid, PlanFits, PlansSound}
use Rattle.placement.proofs.Boxes.{cell_apart}
use Rattle.placement.proofs.Grids.{grids_stand}
use Rattle.placement.proofs.Cycles.{lines_stand, spot-moved}

-- the k-th of c stands in the list, is c, and is the k-th of no other k
pub nth_below : (c : ℕ) (ds : List Slot) (k : ℕ) → k < times c ds → nth c k ds < length ds
nth_below c [] k h = absurd (omega arith)
nth_below c (d ∷ ds) k h = grind (arith, nat_tests, nth_below c ds (k - 1), nth_below c ds k)

pub nth_is : (c : ℕ) (ds : List Slot) (k : ℕ) → k < times c ds → (get_or ds (nth c k ds) no_slot).index ≡ c
nth_is c [] k h = absurd (omega arith)
nth_is c (d ∷ ds) k h = grind (arith, nat_tests, nth_is c ds (k - 1), nth_is c ds k)

nth_own : (c : ℕ) (ds : List Slot) (k m : ℕ) → k < times c ds → m < times c ds → nth c k ds ≡ nth c m ds → k ≡ m
nth_own c [] k m h l e = absurd (omega arith)
nth_own c (d ∷ ds) k m h l e = grind (arith, nat_tests, nth_own c ds (k - 1) (m - 1), nth_own c ds k m)

strip_has : (c : ℕ) (ss : List Strip) → strip_with c ss < length ss → 0 < times c (get_or ss (strip_with c ss) no_strip).cycle
strip_has c [] h = absurd (omega arith)
strip_has c (s ∷ ss) h = grind (arith, nat_tests, strip_has c ss)

-- a factor of a product that has something below it
factor : (n a b : ℕ) → n < a * b → 0 < b
factor n a zero h = absurd (omega (arith, mul-zero a))
factor n a (suc b) h = omega arith

-- what a valid place knows of its component
module _ (f : Plan) (p : Place) (v : Valid f p) where
  pub often_pos : 0 < often f p.index
  often_pos = strip_has p.index f.strips v.stored

  pub wide_pos : 0 < wide f p.index
  wide_pos = factor p.column f.tile_columns (wide f p.index) v.column

  pub high_pos : 0 < high f p.index
  high_pos = factor p.row f.tile_rows (high f p.index) v.row

  pub occurs : p.column % wide f p.index % often f p.index < often f p.index
  occurs = mod-lt (p.column % wide f p.index) often_pos

  pub entry_below : slot_at f p < length (cells f (home f p.index))
  entry_below =
      subst (λ (n : ℕ). slot_at f p < n) (sym (length-map (strip f (home f p.index)).cycle (λ s. s.cell)))
      (nth_below p.index (strip f (home f p.index)).cycle _ occurs)

  entry_is : (get_or (strip f (home f p.index)).cycle (slot_at f p) no_slot).index ≡ p.index
  entry_is = nth_is p.index (strip f (home f p.index)).cycle _ occurs

  pub turn_below : turn_at f p < (strip f (home f p.index)).count
  turn_below = div_below (p.column % wide f p.index) (often f p.index) _ often_pos (mod-lt p.column wide_pos)

  pub line_below : line_at f p < high f p.index
  line_below = mod-lt p.row high_pos

  pub across : p.column / wide f p.index < f.tile_columns
  across = div_below p.column (wide f p.index) f.tile_columns wide_pos v.column

  pub tile_below : tile_at f p < f.tile_rows * f.tile_columns
  tile_below = digits_lt (div_below p.row (high f p.index) f.tile_rows high_pos v.row) across

rejoin : (n m k : ℕ) → n / k ≡ m / k → n % k ≡ m % k → n ≡ m
rejoin n m k d r = omega (arith, div-add-mod' n k, div-add-mod' m k, ap (λ (x : ℕ). x * k) d, r)

-- two places of one component
same_component : (f : Plan) (c x y x' y' : ℕ)
    → Valid f (record { index = c; column = x; row = y }) → Valid f (record { index = c; column = x'; row = y' })
    → tile_at f (record { index = c; column = x; row = y }) ≡ tile_at f (record { index = c; column = x'; row = y' })
    → line_at f (record { index = c; column = x; row = y }) ≡ line_at f (record { index = c; column = x'; row = y' })
    → turn_at f (record { index = c; column = x; row = y }) ≡ turn_at f (record { index = c; column = x'; row = y' })
    → slot_at f (record { index = c; column = x; row = y }) ≡ slot_at f (record { index = c; column = x'; row = y' })
    → (x ≡ x') × (y ≡ y')
same_component f c x y x' y' v v' t l r e =
    let p : Place = record { index = c; column = x; row = y } in
    let p' : Place = record { index = c; column = x'; row = y' } in
    let tile = cell_apart f.tile_columns (y / high f c) (y' / high f c) (x / wide f c) (x' / wide f c) (across f p v) (across f p' v') t in
    let k = nth_own c (strip f (home f c)).cycle (x % wide f c % often f c) (x' % wide f c % often f c) (occurs f p v) (occurs f p' v') e in
    (rejoin x x' (wide f c) tile.1 (rejoin (x % wide f c) (x' % wide f c) (often f c) r k), rejoin y y' (high f c) tile.0 l)

same_place : (f : Plan) (p q : Place) → Valid f p → Valid f q → tile_at f p ≡ tile_at f q → home f p.index ≡ home f q.index
    → line_at f p ≡ line_at f q → turn_at f p ≡ turn_at f q → slot_at f p ≡ slot_at f q → p ≡ q
same_place f p q v u t g l r e =
    let c : p.index ≡ q.index =
    sym (entry_is f p v) ∙ ap (λ (n : ℕ). (get_or (strip f n).cycle (slot_at f p) no_slot).index) g
    ∙ ap (λ (n : ℕ). (get_or (strip f (home f q.index)).cycle n no_slot).index) e ∙ entry_is f q u in
    let s = pathed q.index c u t l r e in
    λ i. record { index = c i; column = s.0 i; row = s.1 i }
  where
    Goal : ℕ → Type 0
    Goal d = Valid f (record { index = d; column = q.column; row = q.row })
        → tile_at f p ≡ tile_at f (record { index = d; column = q.column; row = q.row })
        → line_at f p ≡ line_at f (record { index = d; column = q.column; row = q.row })
        → turn_at f p ≡ turn_at f (record { index = d; column = q.column; row = q.row })
        → slot_at f p ≡ slot_at f (record { index = d; column = q.column; row = q.row })
        → (p.column ≡ q.column) × (p.row ≡ q.row)

    pathed : (d : ℕ) → p.index ≡ d → Goal d
    pathed d c = subst Goal c (λ u t l r e. same_component f p.index p.column p.row q.column q.row v u t l r e)

-- coordinates: the bit i of entry e in the turn r of line y of the group g in the tile t
record At (f : Plan) (t g y r e i : ℕ) : Type 0 where
  tile : t < f.tile_rows * f.tile_columns
  group : g < length f.strips
  row : y < (strip f g).rows
  turn : r < (strip f g).count
  entry : e < length (cells f g)
  bit : i < (line_word f.packing (cells f g) (strip f g).count r e).depth

line_spot : (f : Plan) (g r e i : ℕ) → ℕ
line_spot f g r e i = spot (line_word f.packing (cells f g) (strip f g).count r e) i

module _ (f : Plan) (h : PlanFits f) where
  sound : GridSound (grid f)
  sound = grids_stand (grid f) h.even

  line : (g : ℕ) → g < length f.strips → LineSound f.packing (cells f g) (strip f g).count
  line g l = lines_stand f.packing (cells f g) (strip f g).count (h.cycles g l)

  spot_below : (t g y r e i : ℕ) → At f t g y r e i → line_spot f g r e i < 8 * line_bytes f.packing (cells f g) (strip f g).count
  unfolding line_spot
  spot_below t g y r e i a = (line g a.group).within r e i a.turn a.entry a.bit

  inside : (t g y r e i : ℕ) → At f t g y r e i → Inside (grid f) t g y (line_spot f g r e i / 8)
  inside t g y r e i a =
      record { tile = a.tile; group = a.group; row = a.row; byte = omega (arith, spot_below t g y r e i a) }

  coord_within : (t g y r e i : ℕ) → At f t g y r e i → (8 * start (grid f) t g y + line_spot f g r e i) / 8 < frame_bytes (grid f)
  coord_within t g y r e i a = omega (arith, sound.within t g y (line_spot f g r e i / 8) (inside t g y r e i a))

  coord_apart : (t g y r e i t' g' y' r' e' j : ℕ) → At f t g y r e i → At f t' g' y' r' e' j
      → 8 * start (grid f) t g y + line_spot f g r e i ≡ 8 * start (grid f) t' g' y' + line_spot f g' r' e' j
      → (t ≡ t') × (g ≡ g') × (y ≡ y') × (r ≡ r') × (e ≡ e') × (i ≡ j)
  unfolding line_spot
  coord_apart t g y r e i t' g' y' r' e' j a b q =
      let s = sound.apart t g y (line_spot f g r e i / 8) t' g' y' (line_spot f g' r' e' j / 8) (inside t g y r e i a) (inside t' g' y' r' e' j b) (omega arith) in
      let k : line_spot f g r e i ≡ line_spot f g' r' e' j = omega (arith, s.3, q) in
      let back = sym s.1 in
      let z = (line g a.group).apart r e i r' e' j a.turn a.entry a.bit
      (subst (λ (n : ℕ). r' < (strip f n).count) back b.turn)
      (subst (λ (n : ℕ). e' < length (cells f n)) back b.entry)
      (subst (λ (n : ℕ). j < (line_word f.packing (cells f n) (strip f n).count r' e').depth) back b.bit)
      (k ∙ ap (λ (n : ℕ). line_spot f n r' e' j) back) in
      (s.0, s.1, s.2, z.0, z.1, z.2)

  place_at : (p : Place) (i : ℕ) → Valid f p → i < (word_of f p).depth → At f (tile_at f p) (home f p.index) (line_at f p) (turn_at f p) (slot_at f p) i
  place_at p i v l =
      record { tile = tile_below f p v; group = v.stored; row = line_below f p v; turn = turn_below f p v; entry = entry_below f p v; bit = l }

  place_spot : (p : Place) (i : ℕ)
      → spot (word_of f p) i ≡ 8 * start (grid f) (tile_at f p) (home f p.index) (line_at f p) + line_spot f (home f p.index) (turn_at f p) (slot_at f p) i
  unfolding line_spot
  place_spot p i = spot-moved _ _ i

  place_apart : (p q : Place) (i j : ℕ) → Valid f p → Valid f q → i < (word_of f p).depth → j < (word_of f q).depth
      → spot (word_of f p) i ≡ spot (word_of f q) j → (p ≡ q) × (i ≡ j)
  place_apart p q i j v u hi hj e =
      let s = coord_apart _ _ _ _ _ i _ _ _ _ _ j (place_at p i v hi) (place_at q j u hj) (sym (place_spot p i) ∙ e ∙ place_spot q j) in
      (same_place f p q v u s.0 s.1 s.2 s.3 s.4, s.5)

  place_within : (p : Place) (i : ℕ) → Valid f p → i < (word_of f p).depth → spot (word_of f p) i / 8 < frame_bytes (grid f)
  place_within p i v l =
      subst (λ (n : ℕ). n / 8 < frame_bytes (grid f)) (sym (place_spot p i)) (coord_within _ _ _ _ _ i (place_at p i v l))

  place_deep : (p : Place) → Valid f p → (word_of f p).depth ≡ depth_of f p.index
  place_deep p v =
      (line (home f p.index) v.stored).deep (turn_at f p) (slot_at f p) no_slot.cell (turn_below f p v) (entry_below f p v)
      ∙ ap (λ (x : Cell). x.depth)
      (get_or-map (λ s. s.cell) (strip f (home f p.index)).cycle (slot_at f p) no_slot no_slot.cell
      (nth_below p.index (strip f (home f p.index)).cycle _ (occurs f p v)))
      ∙ h.alike (home f p.index) v.stored (slot_at f p) (nth p.index 0 (strip f (home f p.index)).cycle)
      (nth_below p.index (strip f (home f p.index)).cycle _ (occurs f p v))
      (nth_below p.index (strip f (home f p.index)).cycle 0 (often_pos f p v))
      (entry_is f p v ∙ sym (nth_is p.index (strip f (home f p.index)).cycle 0 (often_pos f p v)))

  place_whole : (p : Place) → Valid f p → Whole (word_of f p)
  place_whole p v =
      let w = (line (home f p.index) v.stored).whole (turn_at f p) (slot_at f p) (turn_below f p v) (entry_below f p v) in
      record { some = w.some; inside = w.inside }

  -- some value of the cycle has the depth, and each has some bits
  place_some : (p : Place) → Valid f p → 0 < depth_of f p.index
  place_some p v =
      let n = nth_below p.index (strip f (home f p.index)).cycle 0 (often_pos f p v) in
      subst (λ (x : ℕ). 0 < x) (ap (λ (x : Cell). x.depth) (get_or-map (λ s. s.cell) (strip f (home f p.index)).cycle (nth p.index 0 (strip f (home f p.index)).cycle) no_slot no_slot.cell n))
      (All-get_or (Holds f.packing) (cells f (home f p.index)) (nth p.index 0 (strip f (home f p.index)).cycle) no_slot.cell
      (subst (λ (x : ℕ). nth p.index 0 (strip f (home f p.index)).cycle < x) (sym (length-map (strip f (home f p.index)).cycle (λ s. s.cell))) n)
      (h.cycles (home f p.index) v.stored).held).some

pub plans_sound : PlansSound
plans_sound f h =
    record {
      deep = place_deep f h;
      some = place_some f h;
      whole = place_whole f h;
      within = λ p i v l. place_within f h p i v (deeper p v i l);
      apart = λ p q i j v u hi hj e. place_apart f h p q i j v u (deeper p v i hi) (deeper q u j hj) e;
    }
  where
    deeper : (p : Place) → Valid f p → (i : ℕ) → i < depth_of f p.index → i < (word_of f p).depth
    deeper p v i l = subst (λ (x : ℕ). i < x) (sym (place_deep f h p v)) l
