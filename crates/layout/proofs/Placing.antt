-- A place in the numbers of its group.
use Rattle.std.proofs.Common.{◌≡◌, ℕ, suc, ◌+◌, ◌*◌, ◌≤◌, Bool, true, false, cond, eqb, List, [], ◌∷◌, map, length, ap, ◌∙◌, arith}
use Rattle.placement.specs.Place.{Slot, Strip, times, home, often, wide, high, strip}
use Rattle.placement.specs.declared.place.Place.{Place}
use Rattle.plans.specs.Cells.{slot_of}
use Rattle.plans.specs.Views.{View, plan_of}
use Rattle.layout.specs.Coordinates.{Grouped}
use Rattle.layout.specs.declared.group.Group.{Group}

module _ (v : View) (p : Place) (g : Group) (h : Grouped v p g) where
  -- what follows from the cycle of the group follows from that of the strip
  pub by_cycle : {Y : Type 0} (F : List Slot → Y) → F (map slot_of g.line.cycle.now) ≡ F (strip (plan_of v) (home (plan_of v) p.index)).cycle
  by_cycle F = ap (λ (s : Strip). F s.cycle) h.strip

  pub wide_is : (o : ℕ) → o ≡ often (plan_of v) p.index → g.line.count * o ≡ wide (plan_of v) p.index
  wide_is o e = ap (λ (x : ℕ). g.line.count * x) e ∙ ap (λ (s : Strip). s.count * often (plan_of v) p.index) h.strip

  pub rows_is : g.rows ≡ high (plan_of v) p.index
  rows_is = ap (λ (s : Strip). s.rows) h.strip

-- a cycle has a component no more often than it has slots
pub times_le : (c : ℕ) (ss : List Slot) → times c ss ≤ length ss
times_le c [] = omega arith
times_le c (s ∷ ss) = go (eqb s.index c) (times_le c ss)
  where
    go : (t : Bool) → times c ss ≤ length ss → cond t 1 0 + times c ss ≤ suc (length ss)
    go true h = omega arith
    go false h = omega arith
