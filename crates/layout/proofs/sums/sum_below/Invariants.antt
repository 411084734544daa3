use Rattle.std.proofs.Common.{◌≡◌, ℕ, ◌*◌, ◌<◌, ◌≤◌}
use Rattle.placement.specs.Grid.{summed}
use Rattle.plans.specs.declared.units.Bytes.{Bytes}
use Rattle.layout.proofs.sums.sum_below.Given as goal

abbrev pub invariant-loop-h : goal.invariant-loop-h
invariant-loop-h g l = record {
  is : (f : ℕ → ℕ) → ((h : ℕ) (r : Bytes) → h < l.g → goal.F-post g l.each h r → r.0 ≡ f h) → l.sum ≡ summed f l.h;
  near : (m : ℕ) → ((h : ℕ) (r : Bytes) → h < l.g → goal.F-post g l.each h r → r.0 ≤ m) → l.sum ≤ l.h * m;
}
