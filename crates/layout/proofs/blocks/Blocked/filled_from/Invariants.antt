use Rattle.std.proofs.Common.{◌≡◌, ◌*◌, ◌≤◌, map, drop}
use Rattle.plans.specs.Cells.{cell_of, blocks_of}
use Rattle.placement.specs.Line.{repeated}
use Rattle.placement.specs.Pack.{total}
use Rattle.layout.proofs.blocks.Blocked.filled_from.Given as goal

abbrev pub invariant-loop-i : goal.invariant-loop-i
invariant-loop-i l =
    (l.filled.0 ≤ 8 * l.self.block.bytes.0)
    × (total (blocks_of l.self.block) l.filled.0 (drop l.i (repeated l.self.count (map cell_of l.self.cycle.now)))
    ≡ total (blocks_of l.self.block) l.initial.filled.0 (drop l.initial.i (repeated l.self.count (map cell_of l.self.cycle.now))))
