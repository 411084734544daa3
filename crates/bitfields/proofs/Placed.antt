-- The places of a plan that fits are fields with bits of their own.
use Rattle.std.proofs.Common.{ℕ, ◌/◌, ◌^◌, ◌<◌, ◌≤◌, ◌≢◌, length, sym, subst, arith}
use Rattle.placement.specs.declared.place.Place.{Place}
use Rattle.placement.specs.Grid.{frame_bytes}
use Rattle.placement.specs.Place.{Plan, grid, depth_of, Valid, PlanSound}
use Rattle.placement.proofs.Places.{plans_sound}
use Rattle.bitfields.specs.Field.{Distinct, Separate}
use Rattle.bitfields.specs.Plans.{field_at, PlanKeeps, PlansKeep}
use Rattle.bitfields.proofs.Fields.{field_laws}

module _ (f : Plan) (s : PlanSound f) where
  -- a bit of the field is one of the component's depth
  low : (p : Place) (i : ℕ) → Valid f p → i < (field_at f p).depth → i < depth_of f p.index
  low p i v h = subst (λ (d : ℕ). i < d) (s.deep p v) h

  pub distinct : (p : Place) (size : ℕ) → Valid f p → frame_bytes (grid f) ≤ size → Distinct (field_at f p) size
  distinct p size v h = record {
    within = λ i l. omega (arith, s.within p i v (low p i v l));
    own = λ i j hi hj e. (s.apart p p i j v v (low p i v hi) (low p j v hj) e).1;
  }

  pub separate : (p q : Place) → Valid f p → Valid f q → p ≢ q → Separate (field_at f p) (field_at f q)
  separate p q v u ne i j hi hj e = ne (s.apart p q i j v u (low p i v hi) (low q j u hj) e).0

  -- no bit of a place lies past the frame size
  past : (p : Place) (k : ℕ) → Valid f p → frame_bytes (grid f) ≤ k → (i : ℕ) → i < (field_at f p).depth → (field_at f p).spots i / 8 ≢ k
  past p k v h i l e = omega (arith, s.within p i v (low p i v l))

  keeps : PlanKeeps f
  keeps = record {
    deep = s.deep;
    length-put = λ p code bytes. field_laws.length-put (field_at f p) code bytes;
    spell-put_same = λ p code bytes v h l.
        field_laws.spell-put_same (field_at f p) code bytes (distinct p (length bytes) v h) (subst (λ (d : ℕ). code < 2 ^ d) (sym (s.deep p v)) l);
    spell-put_other = λ p q code bytes v u ne. field_laws.spell-put_other (field_at f p) (field_at f q) code bytes (separate p q v u ne);
    bit-put_unplaced = λ p code bytes q v n. field_laws.bit-put_other (field_at f p) code bytes q (n p v);
    byte-put_past = λ p code bytes k v h. field_laws.byte-put_other (field_at f p) code bytes k (past p k v h);
  }

pub plans_keep : PlansKeep
plans_keep f h = keeps f (plans_sound f h)
