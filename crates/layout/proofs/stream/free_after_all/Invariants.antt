use Rattle.std.proofs.Common.{◌≡◌, ◌+◌, ◌*◌, ◌≤◌, map, take}
use Rattle.plans.specs.Cells.{cell_of}
use Rattle.placement.specs.Pack.{packed_end}
use Rattle.layout.proofs.stream.free_after_all.Given as goal

abbrev pub invariant-loop-entry : goal.invariant-loop-entry
invariant-loop-entry l = (l.at.0 ≤ l.initial.at.0 + 71 * l.entry-index) × (l.at.0 ≡ packed_end l.initial.at.0 (take l.entry-index (map cell_of l.entries)))
