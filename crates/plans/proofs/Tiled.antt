-- The grid of each entry is its component's part of a tile, for all tiles.
use Rattle.std.proofs.Common.{◌≡◌, ℕ, zero, suc, ◌+◌, ◌*◌, ◌/◌, ◌%◌, ◌<◌, Bool, true, false, cond, not, ◌&&◌, ◌≢◌, ◌⊎◌, List, [], ◌∷◌, map, length, get_or, Some, None, Option, sym, refl, ap, ◌∙◌, subst, inl, inr, mul_assoc, mul_comm, mul-one, div-one, arith}
use native.Mathlib.Nat.{div-add-mod, div-eq_of_eq-mul_left, div-eq_of_eq-mul_right}
use lib.ListN.{length-map}
use Rattle.std.specs.List.{list_all}
use Rattle.std.proofs.lemmas.Bool.{eq-eqb, ne_eqb, both_ways, cases_Bool}
use Rattle.std.proofs.lemmas.Bool.Decides.{nat_tests}
use Rattle.choices.specs.Choices.{across_of, down_of}
use Rattle.choices.specs.declared.choice.Interleave.{Interleave}
use Rattle.choices.specs.declared.choice.Interleave.TheVariants.{Component, Pixel, Mixed, Row, TileComponent, MultiY}
use Rattle.choices.specs.declared.choice.Sampling.{Sampling}
use Rattle.choices.specs.declared.flags.Flags.{Flags}
use Rattle.configuration.specs.Entries.{blank}
use Rattle.configuration.specs.declared.entry.Entry.{Entry as Listed}
use Rattle.configuration.specs.declared.listing.Sizes.{Sizes}
use Rattle.choices.specs.ComponentTypes.{type_numbered}
use Rattle.rules.specs.Entries.{Types, is_number, is_of, is_multi_y}
use Rattle.rules.specs.Interleaving.{goes_with, same_of, one_index_of, yuv, is_yuv}
use Rattle.rules.specs.Tiles.{divides, tiles_fit}
use Rattle.placement.specs.Place.{Slot, Strip, no_slot, no_strip, times, nth, strip_with, strip, PlanFits}
use Rattle.placement.proofs.Places.{nth_below, nth_is}
use Rattle.plans.specs.Cells.{slot_of}
use Rattle.plans.specs.Entries.{is_chroma, defined_as, no_entry}
use Rattle.plans.specs.Facts.{Gridded}
use Rattle.plans.specs.Views.{View, alone, together, strips_by, plan_of}
use Rattle.plans.specs.declared.entry.Entry.{Entry}
use Rattle.plans.proofs.Kept.{Rules, each_at}
use Rattle.plans.proofs.Planned.{unfull, entry, view, entry_at_lem, slot_at, alone_at, alone_count, own, plan_fits}

-- Counting in a cycle.

pub times_pos : (c : ℕ) (xs : List Slot) (k : ℕ) → k < length xs → (get_or xs k no_slot).index ≡ c → 0 < times c xs
times_pos c [] k l e = absurd (omega arith)
times_pos c (x ∷ xs) zero l e = grind (arith, nat_tests)
times_pos c (x ∷ xs) (suc k) l e = omega (arith, times_pos c xs k (omega arith) e)

pub times_none : (c : ℕ) (xs : List Slot) → ((k : ℕ) → k < length xs → (get_or xs k no_slot).index ≢ c) → times c xs ≡ 0
times_none c [] f = refl
times_none c (x ∷ xs) f = grind (arith, nat_tests, f 0 (omega arith), times_none c xs (λ k l. f (suc k) (omega arith)))

times_one : (c : ℕ) (xs : List Slot) (k : ℕ) → k < length xs → (get_or xs k no_slot).index ≡ c
    → ((m : ℕ) → m < length xs → (get_or xs m no_slot).index ≡ c → m ≡ k) → times c xs ≡ 1
times_one c [] k l e f = absurd (omega arith)
times_one c (x ∷ xs) zero l e f = grind (arith, nat_tests, times_none c xs (λ k q i. absurd (omega (arith, f (suc k) (omega arith) i))))
times_one c (x ∷ xs) (suc k) l e f = grind (arith, nat_tests, f 0 (omega arith), times_one c xs k (omega arith) e (λ m q i. omega (arith, f (suc m) (omega arith) i)))

-- where each slot is of one of three components
times-three : (a b c : ℕ) → a ≢ b → a ≢ c → b ≢ c → (xs : List Slot)
    → ((k : ℕ) → k < length xs → ((get_or xs k no_slot).index ≡ a) ⊎ (((get_or xs k no_slot).index ≡ b) ⊎ ((get_or xs k no_slot).index ≡ c)))
    → times a xs + times b xs + times c xs ≡ length xs
times-three a b c p q r [] f = refl
times-three a b c p q r (x ∷ xs) f =
    grind (arith, nat_tests, f 0 (omega arith), times-three a b c p q r xs (λ k l. f (suc k) (omega arith)))

-- the strip that has a component, where none before it has
pub home_at : (c : ℕ) (ss : List Strip) (g : ℕ) → g < length ss → 0 < times c (get_or ss g no_strip).cycle
    → ((k : ℕ) → k < g → times c (get_or ss k no_strip).cycle ≡ 0) → strip_with c ss ≡ g
home_at c [] g l p f = absurd (omega arith)
home_at c (s ∷ ss) zero l p f = grind (arith, nat_tests)
home_at c (s ∷ ss) (suc g) l p f = grind (arith, nat_tests, f 0 (omega arith), home_at c ss g (omega arith) p (λ k q. f (suc k) (omega arith)))

-- where an entry stands: in slot k of the strip g, and in no strip before it
record Spot (ss : List Strip) (across down : ℕ) (e : Entry) : Type 0 where
  g : ℕ
  k : ℕ
  first : strip_with e.index ss ≡ g
  within : g < length ss
  slot : k < length (get_or ss g no_strip).cycle
  is : get_or (get_or ss g no_strip).cycle k no_slot ≡ slot_of e
  columns : e.columns ≡ across * ((get_or ss g no_strip).count * times e.index (get_or ss g no_strip).cycle)
  rows : e.rows ≡ down * (get_or ss g no_strip).rows

placed : (u : View) → PlanFits (plan_of u) → (e : Entry) → Spot (strips_by u.interleave u) u.tile_columns u.tile_rows e → Gridded u e
placed u p e o =
    let c = e.index in
    let cycle = (strip (plan_of u) o.g).cycle in
    let pos = times_pos c cycle o.k o.slot (ap (λ (x : Slot). x.index) o.is) in
    record {
      stored = subst (λ (n : ℕ). n < length (strips_by u.interleave u)) (sym o.first) o.within;
      columns = subst (λ (n : ℕ). e.columns ≡ u.tile_columns * ((strip (plan_of u) n).count * times c (strip (plan_of u) n).cycle)) (sym o.first) o.columns;
      rows = subst (λ (n : ℕ). e.rows ≡ u.tile_rows * (strip (plan_of u) n).rows) (sym o.first) o.rows;
      depth = subst (λ (n : ℕ). e.depth.0 ≡ (get_or (strip (plan_of u) n).cycle (nth c 0 (strip (plan_of u) n).cycle) no_slot).cell.depth) (sym o.first)
          (ap (λ (x : Slot). x.cell.depth) (sym o.is)
          ∙ p.alike o.g o.within o.k (nth c 0 cycle) o.slot (nth_below c cycle 0 pos)
          (ap (λ (x : Slot). x.index) o.is ∙ sym (nth_is c cycle 0 pos)));
    }

-- Parts of a side.

whole : (n t : ℕ) → n % t ≡ 0 → n ≡ t * (n / t)
whole n t e = omega (arith, div-add-mod n t)

shared : (n t a : ℕ) → 0 < a → n % t ≡ 0 → n / t % a ≡ 0 → n / a ≡ t * (n / t / a)
shared n t a p e f =
    div-eq_of_eq-mul_left p
    (whole n t e ∙ ap (λ (x : ℕ). t * x) (whole (n / t) a f ∙ mul_comm a (n / t / a)) ∙ sym (mul_assoc t (n / t / a) a))

again : (x t y : ℕ) → 0 < t → x ≡ t * y → x ≡ t * (x / t)
again x t y p e = e ∙ ap (λ (k : ℕ). t * k) (sym (div-eq_of_eq-mul_right p e))

-- a side, or its part that chroma has, in tiles
parted : (b : Bool) (n t a : ℕ) → 0 < t → 0 < a → n % t ≡ 0 → n / t % a ≡ 0 → cond b (n / a) n ≡ t * (cond b (n / a) n / t)
parted b n t a p q e f = grind (arith, nat_tests, again (n / a) t (n / t / a) p (shared n t a q e f), whole n t e)

across_some : (s : Sampling) → 0 < across_of s
across_some s = grind arith

down_some : (s : Sampling) → 0 < down_of s
down_some s = grind arith

pub record Divided (n t a : ℕ) : Type 0 where
  pub tiles : n % t ≡ 0
  pub parts : n / t % a ≡ 0

divided : (n t a : ℕ) → divides n t a ≡ true → Divided n t a
divided n t a h = record { tiles = grind (arith, nat_tests); parts = grind (arith, nat_tests) }

pub sides : (s : Sampling) (z : Sizes) (w h : ℕ) → tiles_fit s z w h ≡ true
    → Divided w (z.tile_columns_less_one + 1) (across_of s) × Divided h (z.tile_rows_less_one + 1) (down_of s)
sides s z w h k =
    (divided w (z.tile_columns_less_one + 1) (across_of s) (grind (arith, nat_tests)), divided h (z.tile_rows_less_one + 1) (down_of s) (grind (arith, nat_tests)))

-- the number of a type
number : (o : Option ℕ) (k : ℕ) → is_number o k ≡ true → defined_as o ≡ k
number None k e = grind (arith, nat_tests)
number (Some n) k e = grind (arith, nat_tests)

-- and the type that the table has for it
type_kept : (o : Option ℕ) (k : ℕ) → is_number o k ≡ true → type_numbered (defined_as o) ≡ type_numbered k
type_kept o k e = ap type_numbered (number o k e)

module _ (types : Types) (s : Sampling) (block : ℕ) (f : Flags) (z : Sizes) (es : List Listed) (w h : ℕ) where
  abbrev at : ℕ → Listed
  at n = get_or es n blank

  abbrev settled : Listed → Entry
  settled = entry types s block f z es w h

  abbrev seen : Interleave → View
  seen = view types s block f z es w h

  abbrev T : ℕ
  T = z.tile_columns_less_one + 1

  abbrev R : ℕ
  R = z.tile_rows_less_one + 1

  -- each entry alone
  alone-spot : (v : Interleave) → is_multi_y v ≡ false → Rules types s v block z es w h → (n : ℕ) → n < length es
      → Spot (map (alone (seen v)) (map settled es)) T R (settled (at n))
  alone-spot v q r n l =
      let is = alone_at types s block f z es w h v n l in
      let one : times (at n).index (get_or (map (alone (seen v)) (map settled es)) n no_strip).cycle ≡ 1 =
      ap (λ (x : Strip). times (at n).index x.cycle) is ∙ ap (λ (b : Bool). cond b 1 0 + 0) (eq-eqb (at n).index (at n).index refl) in
      let d = sides s z w h r.tiles in
      record {
        g = n;
        k = 0;
        first = home_at (at n).index (map (alone (seen v)) (map settled es)) n (omega (arith, alone_count types s block f z es w h v)) (omega arith)
            (λ m i. none m i);
        within = omega (arith, alone_count types s block f z es w h v);
        slot = subst (λ (x : Strip). 0 < length x.cycle) (sym is) (omega arith);
        is = ap (λ (x : Strip). get_or x.cycle 0 no_slot) is;
        columns = parted (is_chroma (settled (at n)).component_type) w T (across_of s) (omega arith) (across_some s) d.0.tiles d.0.parts
            ∙ ap (λ (x : ℕ). T * x) (sym (mul-one _) ∙ ap (λ (x : ℕ). (settled (at n)).columns / T * x) (sym one) ∙ ap (λ (x : Strip). x.count * times (at n).index (get_or (map (alone (seen v)) (map settled es)) n no_strip).cycle) (sym is));
        rows = parted (is_chroma (settled (at n)).component_type) h R (down_of s) (omega arith) (down_some s) d.1.tiles d.1.parts
            ∙ ap (λ (x : Strip). R * x.rows) (sym is);
      }
    where
      none : (m : ℕ) → m < n → times (at n).index (get_or (map (alone (seen v)) (map settled es)) m no_strip).cycle ≡ 0
      none m i =
          ap (λ (x : Strip). times (at n).index x.cycle) (alone_at types s block f z es w h v m (omega arith))
          ∙ ap (λ (b : Bool). cond b 1 0 + 0)
          (ne_eqb (at m).index (at n).index (λ e. absurd (omega (arith, own types s block f z es w h v q r m n (omega arith) l e))))

  slots_count : length (map slot_of (map settled es)) ≡ length es
  slots_count = length-map (map settled es) slot_of ∙ length-map es settled

  slot_index : (n : ℕ) → n < length es → (get_or (map slot_of (map settled es)) n no_slot).index ≡ (at n).index
  slot_index n l = ap (λ (x : Slot). x.index) (slot_at types s block f z es w h n l)

  -- all entries in one strip: how often each stands there gives its columns
  together-spot : (count rows n : ℕ) → n < length es → (settled (at n)).columns ≡ T * (count * times (at n).index (map slot_of (map settled es)))
      → (settled (at n)).rows ≡ R * rows → Spot (together (map settled es) count rows ∷ []) T R (settled (at n))
  together-spot count rows n l c y =
      record {
        g = 0;
        k = n;
        first = home_at (at n).index (together (map settled es) count rows ∷ []) 0 (omega arith)
            (times_pos (at n).index (map slot_of (map settled es)) n (omega (arith, slots_count)) (slot_index n l)) (λ k i. absurd (omega arith));
        within = omega arith;
        slot = omega (arith, slots_count);
        is = slot_at types s block f z es w h n l;
        columns = c;
        rows = y;
      }

  -- an index that no other entry lists
  lone : (n : ℕ) → n < length es → ((m : ℕ) → m < length es → (at m).index ≡ (at n).index → m ≡ n)
      → times (at n).index (map slot_of (map settled es)) ≡ 1
  lone n l only =
      times_one (at n).index (map slot_of (map settled es)) n (omega (arith, slots_count)) (slot_index n l)
      (λ m q e. only m (omega (arith, slots_count)) (sym (slot_index m (omega (arith, slots_count))) ∙ e))

  full_side : (b : Bool) (n a : ℕ) → a ≡ 1 → cond b (n / a) n ≡ n
  full_side b n a e = grind (arith, nat_tests, div-one n)

  pixel_full : (t : Sampling) → goes_with t Pixel ≡ true → (across_of t ≡ 1) × (down_of t ≡ 1)
  pixel_full t q = grind arith

  pixel_spot : Rules types s Pixel block z es w h → (n : ℕ) → n < length es
      → Spot (together (map settled es) (w / T) (h / R) ∷ []) T R (settled (at n))
  pixel_spot r n l =
      let d = sides s z w h r.tiles in
      let k = pixel_full s (let i = r.interleaved in grind (arith, nat_tests)) in
      together-spot (w / T) (h / R) n l
      (full_side (is_chroma (settled (at n)).component_type) w (across_of s) k.0 ∙ whole w T d.0.tiles
      ∙ ap (λ (x : ℕ). T * x) (sym (mul-one (w / T))
      ∙ ap (λ (x : ℕ). w / T * x) (sym (lone n l (λ m q e. own types s block f z es w h Pixel refl r m n q l e)))))
      (full_side (is_chroma (settled (at n)).component_type) h (down_of s) k.1 ∙ whole h R d.1.tiles)

  -- interleave 5
  many_sides : (t : Sampling) → goes_with t MultiY ≡ true → (across_of t ≡ across_of t) × (down_of t ≡ 1)
  many_sides t q = grind arith

  -- some entry has the type, where not all do not
  finds : (k : ℕ) (xs : List Listed) → list_all (λ e. not (is_of types k e)) xs ≡ false
      → (n : ℕ) × (n < length xs) × (is_of types k (get_or xs n blank) ≡ true)
  finds k [] q = absurd (both_ways true q refl)
  finds k (x ∷ xs) q =
      elim (cases_Bool (is_of types k x)) [
        | inl a ↦ (0, omega arith, a)
        | inr a ↦
            let o = finds k xs (ap (λ (b : Bool). not b && list_all (λ e. not (is_of types k e)) xs) (sym a) ∙ q) in
            (suc o.0, omega (arith, o.1), o.2)
      ]

  record Kind (k : ℕ) : Type 0 where
    place : ℕ
    below : place < length es
    kind : is_of types k (at place) ≡ true
    only : (n : ℕ) → n < length es → is_of types k (at n) ≡ true → (at n).index ≡ (at place).index

  kind_of : (k : ℕ) → one_index_of types k es ≡ true → Kind k
  kind_of k q =
      let same : list_all (λ e. list_all (same_of types k e) es) es ≡ true = grind (arith, nat_tests) in
      let o = finds k es (grind (arith, nat_tests)) in
      record {
        place = o.0;
        below = o.1;
        kind = o.2;
        only = λ n l i.
            let b = each_at (same_of types k (at n)) es (each_at (λ e. list_all (same_of types k e) es) es same n l) o.0 o.1 in
            let c = o.2 in grind (arith, nat_tests);
      }

  -- entries of different types list different indexes
  kinds_apart : (j k : ℕ) → j ≢ k → (n m : ℕ) → is_of types j (at n) ≡ true → is_of types k (at m) ≡ true → (at n).index ≢ (at m).index
  kinds_apart j k q n m a b e = grind (arith, number (types (at n).index) j a, number (types (at m).index) k b)

  yuv-cases : (n : ℕ) → is_yuv types (at n) ≡ true → (is_of types 1 (at n) ≡ true) ⊎ ((is_of types 2 (at n) ≡ true) ⊎ (is_of types 3 (at n) ≡ true))
  yuv-cases n q = grind (arith, nat_tests)

  -- the grids of Y, and of U and V
  luma_grid : (n : ℕ) → is_of types 1 (at n) ≡ true → ((settled (at n)).columns ≡ w) × ((settled (at n)).rows ≡ h)
  luma_grid n q = let k = type_kept (types (at n).index) 1 q in grind (arith, nat_tests)

  chroma_grid : (n : ℕ) → (is_of types 2 (at n) ≡ true) ⊎ (is_of types 3 (at n) ≡ true)
      → ((settled (at n)).columns ≡ w / across_of s) × ((settled (at n)).rows ≡ h / down_of s)
  chroma_grid n o =
      let a = type_kept (types (at n).index) 2 in
      let b = type_kept (types (at n).index) 3 in
      grind (arith, nat_tests, a, b)

  -- in interleave 5 only Y stands more than once
  chroma_once : Rules types s MultiY block z es w h → (k : ℕ) → 1 ≢ k → (n : ℕ) → n < length es → is_of types k (at n) ≡ true
      → times (at n).index (map slot_of (map settled es)) ≡ 1
  chroma_once r k d n l i =
      lone n l (λ m q e. grind (arith, r.once n m, r.once m n, kinds_apart 1 k d n n, kinds_apart 1 k d m n))

  luma_often : Rules types s MultiY block z es w h → yuv types es ≡ true → list_all (is_yuv types) es ≡ true → length es ≡ 2 + across_of s
      → (n : ℕ) → n < length es → is_of types 1 (at n) ≡ true → times (at n).index (map slot_of (map settled es)) ≡ across_of s
  luma_often r q all len n l i =
      let y = kind_of 1 (grind (arith, nat_tests)) in
      let a = kind_of 2 (grind (arith, nat_tests)) in
      let b = kind_of 3 (grind (arith, nat_tests)) in
      let sum = times-three (at y.place).index (at a.place).index (at b.place).index
      (kinds_apart 1 2 (λ e. absurd (omega arith)) y.place a.place y.kind a.kind)
      (kinds_apart 1 3 (λ e. absurd (omega arith)) y.place b.place y.kind b.kind)
      (kinds_apart 2 3 (λ e. absurd (omega arith)) a.place b.place a.kind b.kind)
      (map slot_of (map settled es)) (λ k j. each-kind y a b k (omega (arith, slots_count))) in
      let one = chroma_once r 2 (λ e. absurd (omega arith)) a.place a.below a.kind in
      let two = chroma_once r 3 (λ e. absurd (omega arith)) b.place b.below b.kind in
      ap (λ (x : ℕ). times x (map slot_of (map settled es))) (y.only n l i) ∙ omega (arith, slots_count)
    where
      each-kind : (y : Kind 1) (a : Kind 2) (b : Kind 3) (k : ℕ) → k < length es
          → ((get_or (map slot_of (map settled es)) k no_slot).index ≡ (at y.place).index)
          ⊎ (((get_or (map slot_of (map settled es)) k no_slot).index ≡ (at a.place).index)
          ⊎ ((get_or (map slot_of (map settled es)) k no_slot).index ≡ (at b.place).index))
      each-kind y a b k j =
          elim (yuv-cases k (each_at (is_yuv types) es all k j)) [
            | inl c ↦ inl (slot_index k j ∙ y.only k j c)
            | inr o ↦ elim o [
              | inl c ↦ inr (inl (slot_index k j ∙ a.only k j c))
              | inr c ↦ inr (inr (slot_index k j ∙ b.only k j c))
            ]
          ]

  many_spot : Rules types s MultiY block z es w h → (n : ℕ) → n < length es
      → Spot (together (map settled es) (w / T / across_of s) (h / R) ∷ []) T R (settled (at n))
  many_spot r n l =
      let k = unfull types s MultiY es r.interleaved refl in
      let m = many_sides s k.0 in
      let count : length es ≡ 2 + across_of s = grind (arith, nat_tests) in
      let all : list_all (is_yuv types) es ≡ true = grind (arith, nat_tests) in
      let d = sides s z w h r.tiles in
      let rows : (settled (at n)).rows ≡ R * (h / R) =
      full_side (is_chroma (settled (at n)).component_type) h (down_of s) m.1 ∙ whole h R d.1.tiles in
      let group : w / T ≡ w / T / across_of s * across_of s =
      whole (w / T) (across_of s) (ap (λ (x : ℕ). w / T % x) m.0 ∙ d.0.parts) ∙ mul_comm (across_of s) (w / T / across_of s) in
      let chroma : w / across_of s ≡ T * (w / T / across_of s * 1) =
      shared w T (across_of s) (across_some s) d.0.tiles d.0.parts
      ∙ ap (λ (x : ℕ). T * x) (ap (λ (x : ℕ). w / T / x) (sym m.0) ∙ sym (mul-one (w / T / across_of s))) in
      elim (yuv-cases n (each_at (is_yuv types) es all n l)) [
        | inl i ↦ together-spot (w / T / across_of s) (h / R) n l
            ((luma_grid n i).0 ∙ whole w T d.0.tiles ∙ ap (λ (x : ℕ). T * x) (group
            ∙ ap (λ (x : ℕ). w / T / across_of s * x) (sym (luma_often r k.1 all count n l i))))
            rows
        | inr o ↦ together-spot (w / T / across_of s) (h / R) n l
            ((chroma_grid n o).0 ∙ chroma ∙ ap (λ (x : ℕ). T * (w / T / across_of s * x)) (sym (part n l o)))
            rows
      ]
    where
      part : (n : ℕ) → n < length es → (is_of types 2 (at n) ≡ true) ⊎ (is_of types 3 (at n) ≡ true) → times (at n).index (map slot_of (map settled es)) ≡ 1
      part n l o =
          elim o [
            | inl i ↦ chroma_once r 2 (λ e. absurd (omega arith)) n l i
            | inr i ↦ chroma_once r 3 (λ e. absurd (omega arith)) n l i
          ]

  -- interleave 2 lists Y first, and then U and V
  record Three : Type 0 where
    count : length es ≡ 3
    luma : is_of types 1 (at 0) ≡ true
    chroma : (m : ℕ) → suc m < length es → (is_of types 2 (at (suc m)) ≡ true) ⊎ (is_of types 3 (at (suc m)) ≡ true)

  three_of : Rules types s Mixed block z es w h → Three
  three_of r =
      let k = unfull types s Mixed es r.interleaved refl in
      let all : list_all (is_yuv types) es ≡ true = grind (arith, nat_tests) in
      let luma : is_of types 1 (at 0) ≡ true = grind (arith, nat_tests) in
      let y = kind_of 1 (grind (arith, nat_tests)) in
      record {
        count = grind (arith, nat_tests);
        luma = luma;
        chroma = λ m l.
            elim (yuv-cases (suc m) (each_at (is_yuv types) es all (suc m) l)) [
              | inl i ↦ absurd (omega (
                arith,
                own types s block f z es w h Mixed refl r 0 (suc m) (omega arith) l
                    (y.only 0 (omega arith) luma ∙ sym (y.only (suc m) l i)),
              ))
              | inr o ↦ o
            ];
      }

  pub mixed_three : Rules types s Mixed block z es w h → length es ≡ 3
  mixed_three r = (three_of r).count

-- the strip of Y, and that of U and V
mixed_spot : (types : Types) (s : Sampling) (block : ℕ) (f : Flags) (z : Sizes) (es : List Listed) (w h : ℕ)
    → Rules types s Mixed block z es w h → (n : ℕ) → n < length es
    → Spot (strips_by Mixed (view types s block f z es w h Mixed)) (z.tile_columns_less_one + 1) (z.tile_rows_less_one + 1)
    (entry types s block f z es w h (get_or es n blank))
mixed_spot types s block f z [] w h r n l = absurd (omega arith)
mixed_spot types s block f z (a ∷ bs) w h r zero l =
    let t = three_of types s block f z (a ∷ bs) w h r in
    let d = sides s z w h r.tiles in
    let g = luma_grid types s block f z (a ∷ bs) w h 0 t.luma in
    let one = lone types s block f z (a ∷ []) w h 0 (omega arith) (λ m q e. omega arith) in
    record {
      g = 0;
      k = 0;
      first = home_at a.index (strips_by Mixed (view types s block f z (a ∷ bs) w h Mixed)) 0 (omega arith) (omega arith) (λ k i. absurd (omega arith));
      within = omega arith;
      slot = omega arith;
      is = refl;
      columns = g.0 ∙ whole w (z.tile_columns_less_one + 1) d.0.tiles
          ∙ ap (λ (x : ℕ). (z.tile_columns_less_one + 1) * x) (sym (mul-one (w / (z.tile_columns_less_one + 1)))
          ∙ ap (λ (x : ℕ). w / (z.tile_columns_less_one + 1) * x) (sym one));
      rows = g.1 ∙ whole h (z.tile_rows_less_one + 1) d.1.tiles;
    }
mixed_spot types s block f z (a ∷ bs) w h r (suc n) l =
    let t = three_of types s block f z (a ∷ bs) w h r in
    let d = sides s z w h r.tiles in
    let g = chroma_grid types s block f z (a ∷ bs) w h (suc n) (t.chroma n l) in
    let q : n < length bs = omega arith in
    let one = lone types s block f z bs w h n q
    (λ m p e. omega (arith, own types s block f z (a ∷ bs) w h Mixed refl r (suc m) (suc n) (omega arith) l e)) in
    record {
      g = 1;
      k = n;
      first = home_at (get_or bs n blank).index (strips_by Mixed (view types s block f z (a ∷ bs) w h Mixed)) 1 (omega arith) (omega arith) none;
      within = omega arith;
      slot = omega (arith, slots_count types s block f z bs w h);
      is = slot_at types s block f z bs w h n q;
      columns = g.0 ∙ shared w (z.tile_columns_less_one + 1) (across_of s) (across_some s) d.0.tiles d.0.parts
          ∙ ap (λ (x : ℕ). (z.tile_columns_less_one + 1) * x) (sym (mul-one (w / (z.tile_columns_less_one + 1) / across_of s))
          ∙ ap (λ (x : ℕ). w / (z.tile_columns_less_one + 1) / across_of s * x) (sym one));
      rows = g.1 ∙ shared h (z.tile_rows_less_one + 1) (down_of s) (down_some s) d.1.tiles d.1.parts;
    }
  where
    none : (k : ℕ) → k < 1
        → times (get_or bs n blank).index (get_or (strips_by Mixed (view types s block f z (a ∷ bs) w h Mixed)) k no_strip).cycle ≡ 0
    none zero i =
        ap (λ (b : Bool). cond b 1 0 + 0) (ne_eqb a.index (get_or bs n blank).index
        (λ e. absurd (omega (arith, own types s block f z (a ∷ bs) w h Mixed refl r 0 (suc n) (omega arith) l e))))
    none (suc k) i = absurd (omega arith)

module _ (types : Types) (s : Sampling) (block : ℕ) (f : Flags) (z : Sizes) (es : List Listed) (w h : ℕ) where
  spot : (v : Interleave) → Rules types s v block z es w h → (n : ℕ) → n < length es
      → Spot (strips_by v (view types s block f z es w h v)) (z.tile_columns_less_one + 1) (z.tile_rows_less_one + 1)
      (entry types s block f z es w h (get_or es n blank))
  spot Component r n l = alone-spot types s block f z es w h Component refl r n l
  spot Pixel r n l = pixel_spot types s block f z es w h r n l
  spot Mixed r n l = mixed_spot types s block f z es w h r n l
  spot Row r n l = alone-spot types s block f z es w h Row refl r n l
  spot TileComponent r n l = alone-spot types s block f z es w h TileComponent refl r n l
  spot MultiY r n l = many_spot types s block f z es w h r n l

  pub gridded : (v : Interleave) → Rules types s v block z es w h → (n : ℕ) → n < length es
      → Gridded (view types s block f z es w h v) (get_or (map (entry types s block f z es w h) es) n no_entry)
  gridded v r n l =
      subst (Gridded (view types s block f z es w h v)) (sym (entry_at_lem types s block f z es w h n l))
      (placed (view types s block f z es w h v) (plan_fits types s block f z es w h v r)
      (entry types s block f z es w h (get_or es n blank)) (spot v r n l))
