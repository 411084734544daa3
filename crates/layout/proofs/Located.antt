-- What locating answers, and the law that no two values share a bit.
use Rattle.std.proofs.Common.{◌≡◌, ℕ, ◌-◌, ◌*◌, ◌/◌, ◌%◌, ◌<◌, ◌≤◌, Bool, true, false, cond, ltb, is_ok, Some, Ok, Err, Result, sym, refl, ap, ◌∙◌, subst, arith}
use Rattle.std.proofs.lemmas.Bool.{ltb-true, lt-ltb, le-ltb}
use Rattle.fault.specs.declared.fault.Fault.{Fault}
use Rattle.fields.specs.Field.{then, check, accepted}
use Rattle.fields.proofs.Chains.{then_ok, check_ok, accepted_ok}
use Rattle.placement.specs.Place.{home, wide, high, depth_of, word_of, Valid, PlanSound}
use Rattle.placement.specs.Word.{spot}
use Rattle.placement.specs.declared.place.Place.{Place}
use Rattle.placement.proofs.Places.{plans_sound}
use Rattle.plans.specs.Entries.{position_with}
use Rattle.plans.specs.Facts.{Facts, Gridded}
use Rattle.layout.specs.Locating.{missing, entry_at, found_at, byte_of, bit_of, locate_answer, Has, Apart}
use Rattle.plans.specs.Views.{View, plan_of, size_of}
use Rattle.layout.proofs.Finding.{first}

-- the frame has the place, and its component is listed first at n
pub record Found (v : View) (p : Place) (n : ℕ) : Type 0 where
  pub first : position_with p.index v.entries ≡ Some n
  pub column : p.column < (entry_at v n).columns
  pub row : p.row < (entry_at v n).rows

pub found : (v : View) (p : Place) (n : ℕ) → found_at v p ≡ Ok n → Found v p n
found v p n e =
    then_ok (accepted (position_with p.index v.entries) (missing 0)) _ n e (λ m a r.
    then_ok (check (ltb p.column (entry_at v m).columns) (missing 1)) _ n r (λ x b s.
    then_ok (check (ltb p.row (entry_at v m).rows) (missing 2)) _ n s (λ y c t.
    let z : m ≡ n = cc in
    subst (Found v p) z
    (record {
      first = accepted_ok (position_with p.index v.entries) (missing 0) m a;
      column = ltb-true p.column (entry_at v m).columns (check_ok (ltb p.column (entry_at v m).columns) (missing 1) x b);
      row = ltb-true p.row (entry_at v m).rows (check_ok (ltb p.row (entry_at v m).rows) (missing 2) y c);
    }))))

module _ (v : View) (f : Facts v) where
  pub gridded : (p : Place) (n : ℕ) → Found v p n → Gridded v (entry_at v n)
  gridded p n h = f.grids n (first p.index v.entries n h.first).below

  pub same_index : (p : Place) (n : ℕ) → Found v p n → (entry_at v n).index ≡ p.index
  same_index p n h = (first p.index v.entries n h.first).is

  pub valid : (p : Place) (n : ℕ) → Found v p n → Valid (plan_of v) p
  valid p n h =
      let g = gridded p n h in
      let e = same_index p n h in
      record {
        stored = omega (arith, g.stored, ap (home (plan_of v)) e);
        column = subst (λ (c : ℕ). p.column < v.tile_columns * wide (plan_of v) c) e (omega (arith, g.columns, h.column));
        row = subst (λ (c : ℕ). p.row < v.tile_rows * high (plan_of v) c) e (omega (arith, g.rows, h.row));
      }

  pub deep : (p : Place) (n : ℕ) → Found v p n → (entry_at v n).depth.0 ≡ depth_of (plan_of v) p.index
  deep p n h = (gridded p n h).depth ∙ ap (depth_of (plan_of v)) (same_index p n h)

  pub sound : PlanSound (plan_of v)
  sound = plans_sound (plan_of v) f.fits

pub locate_refused : (v : View) (p : Place) (n i : ℕ) → found_at v p ≡ Ok n → (entry_at v n).depth.0 ≤ i → locate_answer v p i ≡ Err (missing 3)
locate_refused v p n i e h =
    ap (λ (r : Result ℕ Fault). then r (λ n. then (check (ltb i (entry_at v n).depth.0) (missing 3)) (λ _. Ok (byte_of v p i, bit_of v p i)))) e
    ∙ ap (λ (b : Bool). then (check b (missing 3)) (λ _. Ok (byte_of v p i, bit_of v p i))) (le-ltb i (entry_at v n).depth.0 h)

pub locate_found : (v : View) (p : Place) (n i : ℕ) → found_at v p ≡ Ok n → i < (entry_at v n).depth.0 → locate_answer v p i ≡ Ok (byte_of v p i, bit_of v p i)
locate_found v p n i e h =
    ap (λ (r : Result ℕ Fault). then r (λ n. then (check (ltb i (entry_at v n).depth.0) (missing 3)) (λ _. Ok (byte_of v p i, bit_of v p i)))) e
    ∙ ap (λ (b : Bool). then (check b (missing 3)) (λ _. Ok (byte_of v p i, bit_of v p i))) (lt-ltb i (entry_at v n).depth.0 h)

-- a bit that was located
record Located (v : View) (p : Place) (i : ℕ) (at : ℕ × ℕ) : Type 0 where
  position : ℕ
  is : found_at v p ≡ Ok position
  deep : i < (entry_at v position).depth.0
  byte : at.0 ≡ byte_of v p i
  bit : at.1 ≡ bit_of v p i

located : (v : View) (p : Place) (i : ℕ) (at : ℕ × ℕ) → locate_answer v p i ≡ Ok at → Located v p i at
located v p i at e =
    then_ok (found_at v p) _ at e (λ n a r.
    then_ok (check (ltb i (entry_at v n).depth.0) (missing 3)) _ at r (λ x b s.
    let z : (byte_of v p i, bit_of v p i) ≡ at = cc in
    record {
      position = n;
      is = a;
      deep = ltb-true i (entry_at v n).depth.0 (check_ok (ltb i (entry_at v n).depth.0) (missing 3) x b);
      byte = sym (ap (λ (y : ℕ × ℕ). y.0) z);
      bit = sym (ap (λ (y : ℕ × ℕ). y.1) z);
    }))

-- byte and number give back the bit
same_spot : (q r : ℕ) → q / 8 ≡ r / 8 → 7 - q % 8 ≡ 7 - r % 8 → q ≡ r
same_spot q r a b = omega arith

module _ (v : View) (f : Facts v) where
  shared : (p q : Place) (i j : ℕ) (at : ℕ × ℕ) → locate_answer v p i ≡ Ok at → locate_answer v q j ≡ Ok at → (p ≡ q) × (i ≡ j)
  shared p q i j at a b =
      let x = located v p i at a in
      let y = located v q j at b in
      let h = found v p x.position x.is in
      let g = found v q y.position y.is in
      (sound v f).apart p q i j (valid v f p x.position h) (valid v f q y.position g)
      (omega (arith, x.deep, deep v f p x.position h)) (omega (arith, y.deep, deep v f q y.position g))
      (same_spot (spot (word_of (plan_of v) p) i) (spot (word_of (plan_of v) q) j) (sym x.byte ∙ y.byte) (sym x.bit ∙ y.bit))

  below : (p : Place) (i : ℕ) (at : ℕ × ℕ) → locate_answer v p i ≡ Ok at → (at.0 < size_of v) × (at.1 < 8)
  below p i at a =
      let x = located v p i at a in
      let h = found v p x.position x.is in (
        omega (arith, x.byte, (sound v f).within p i (valid v f p x.position h) (omega (arith, x.deep, deep v f p x.position h))),
        omega (arith, x.bit),
      )

  -- each place has a bit
  some_bit : (p : Place) → Has v p → (at : ℕ × ℕ) × (locate_answer v p 0 ≡ Ok at)
  some_bit p h = go (found_at v p) refl h
    where
      go : (r : Result ℕ Fault) → found_at v p ≡ r → is_ok r ≡ true → (at : ℕ × ℕ) × (locate_answer v p 0 ≡ Ok at)
      go (Ok n) e t =
          let g = found v p n e in
          ((byte_of v p 0, bit_of v p 0), locate_found v p n 0 e (omega (arith, deep v f p n g, (sound v f).some p (valid v f p n g))))
      go (Err w) e t = absurd (let z : ◌≡◌ {A = Bool} true false = sym t in let y : ◌≡◌ {A = ℕ} 0 1 = ap (λ (b : Bool). cond b 0 1) z in omega arith)

  pub apart : Apart v
  apart =
      record {
        below = below;
        equal = λ p q h g. (
          (λ e. let s = some_bit p h in (0, 0, s.0, s.1, subst (λ (x : Place). locate_answer v x 0 ≡ Ok s.0) e s.1)),
          (λ s. (shared p q s.0 s.1 s.2 s.3 s.4).0),
        );
        own = λ p i j at a b. (shared p p i j at a b).1;
      }
