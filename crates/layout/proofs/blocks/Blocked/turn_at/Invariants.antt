use Rattle.std.proofs.Common.{◌+◌, map}
use Rattle.plans.specs.Cells.{cell_of}
use Rattle.layout.specs.Walk.{Walked, origin}
use Rattle.layout.proofs.blocks.Blocked.turn_at.Given as goal
use Rattle.placement.specs.Line.{repeated}

abbrev pub invariant-loop-before : goal.invariant-loop-before
invariant-loop-before l =
    Walked l.self.block origin (repeated (l.lead + l.before) (map cell_of l.self.cycle.now)) l.s
