use Rattle.std.proofs.Common.{◌+◌, ◌≤◌, map, take}
use Rattle.plans.specs.Cells.{cell_of}
use Rattle.layout.specs.Walk.{Walked}
use Rattle.layout.proofs.blocks.Blocked.through.Given as goal

abbrev pub invariant-loop-entry : goal.invariant-loop-entry
invariant-loop-entry l =
    (l.t.block ≤ l.initial.t.block + l.entry-index)
    × Walked l.self.block l.initial.t (take l.entry-index (map cell_of l.entries)) l.t
