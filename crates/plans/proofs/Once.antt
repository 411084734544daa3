-- The facts of a layout are facts: two proofs of them are equal.
use Rattle.std.proofs.Common.{List}
use mathlib.Core.HLevel.{Π_prop, →_prop, ×_prop}
use native.Mathlib.Bridge.{le_prop}
use native.Mathlib.Nat.{ℕ_set}
use Rattle.std.specs.List.{AllByRecursion-prop}
use Rattle.placement.specs.Line as line
use Rattle.placement.specs.Pack.{Cell}
use Rattle.placement.specs.Place.{Plan, PlanFits}
use Rattle.plans.specs.Facts.{Gridded, Facts}
use Rattle.plans.specs.Fit.{Small}
use Rattle.plans.specs.Views.{View}
use Rattle.plans.specs.declared.entry.Entry.{Entry}
use Rattle.plans.specs.declared.packing.Packing.{Packing}

small_prop : (p : Packing) (e : Entry) → IsProp (Small p e)
small_prop p e a b = λ i. record {
  some = le_prop a.some b.some i;
  few = le_prop a.few b.few i;
  align = le_prop a.align b.align i;
  in_block = →_prop le_prop a.in_block b.in_block i;
}

holds_prop : (p : line.Packing) (e : Cell) → IsProp (line.Holds p e)
holds_prop p e a b = λ i. record {
  some = le_prop a.some b.some i;
  alone = →_prop (→_prop le_prop) a.alone b.alone i;
  in_block = →_prop le_prop a.in_block b.in_block i;
}

cycle_prop : (p : line.Packing) (es : List Cell) → IsProp (line.CycleFits p es)
cycle_prop p es a b = λ i. record {
  held = AllByRecursion-prop (line.Holds p) (holds_prop p) es a.held b.held i;
  pixel = →_prop le_prop a.pixel b.pixel i;
}

plan_prop : (f : Plan) → IsProp (PlanFits f)
plan_prop f a b = λ i. record {
  cycles = Π_prop (λ g. →_prop (cycle_prop _ _)) a.cycles b.cycles i;
  alike = Π_prop (λ g. →_prop (Π_prop (λ n. Π_prop (λ m. →_prop (→_prop (→_prop (ℕ_set _ _))))))) a.alike b.alike i;
  even = →_prop (Π_prop (λ g. →_prop (ℕ_set _ _))) a.even b.even i;
}

gridded_prop : (v : View) (e : Entry) → IsProp (Gridded v e)
gridded_prop v e a b = λ i. record {
  stored = le_prop a.stored b.stored i;
  columns = ℕ_set _ _ a.columns b.columns i;
  rows = ℕ_set _ _ a.rows b.rows i;
  depth = ℕ_set _ _ a.depth b.depth i;
}

pub facts_once : (v : View) → IsProp (Facts v)
facts_once v a b = λ i. record {
  few = le_prop a.few b.few i;
  cells = AllByRecursion-prop (Small v.packing) (small_prop v.packing) v.entries a.cells b.cells i;
  block = le_prop a.block b.block i;
  pixel = le_prop a.pixel b.pixel i;
  row = le_prop a.row b.row i;
  tile = le_prop a.tile b.tile i;
  width = le_prop a.width b.width i;
  height = le_prop a.height b.height i;
  across = ×_prop le_prop le_prop a.across b.across i;
  down = ×_prop le_prop le_prop a.down b.down i;
  three = →_prop (ℕ_set _ _) a.three b.three i;
  grids = Π_prop (λ n. →_prop (gridded_prop v _)) a.grids b.grids i;
  columns = Π_prop (λ n. →_prop le_prop) a.columns b.columns i;
  rows = Π_prop (λ n. →_prop le_prop) a.rows b.rows i;
  fits = plan_prop _ a.fits b.fits i;
}
