use Rattle.std.proofs.Common.{◌≡◌, ◌≢◌, map, rules}
use Rattle.plans.specs.Cells.{cell_of}
use Rattle.layout.proofs.Rounds.{end_empty, end_open}
use Rattle.layout.proofs.blocks.Blocked.block_count.Goals as goal
use Rattle.placement.specs.Line.{repeated}

pub returns-then-eq-clause-is : goal.returns-then-eq-clause-is
returns-then-eq-clause-is c =
    let z : c.turn_at-s.result.bits.0 ≡ 0 = search rules in
    end_empty (repeated c.args.self.now.count (map cell_of c.args.self.now.cycle.now)) c.turn_at-s.ensures.is z

pub returns-else-eq-clause-is : goal.returns-else-eq-clause-is
returns-else-eq-clause-is c =
    let z : c.turn_at-s.result.bits.0 ≢ 0 = search rules in
    end_open (repeated c.args.self.now.count (map cell_of c.args.self.now.cycle.now)) c.turn_at-s.ensures.is z
