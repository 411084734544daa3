use Rattle.std.proofs.Common.{◌+◌, ◌*◌, ◌≤◌, map, length}
use Rattle.plans.specs.Cells.{cell_of}
use Rattle.layout.specs.Walk.{Walked}
use Rattle.layout.proofs.blocks.Blocked.rounds.Given as goal
use Rattle.placement.specs.Line.{repeated}

abbrev pub invariant-loop-turn : goal.invariant-loop-turn
invariant-loop-turn l =
    (l.t.block ≤ l.initial.t.block + l._turn * length l.self.cycle.now)
    × Walked l.self.block l.initial.t (repeated l._turn (map cell_of l.self.cycle.now)) l.t
