use Rattle.std.proofs.Common.{◌-◌, ◌*◌, ◌≤◌, map, mul-le-mul, arith}
use Rattle.plans.specs.Cells.{cell_of}
use Rattle.layout.proofs.Strides.{start_is}
use Rattle.layout.proofs.stream.Stream.start_of.Goals as goal
use Rattle.placement.proofs.Lines.{end_le}

pub overflow_sub-result-else-turn-eq0 : goal.overflow_sub-result-else-turn-eq0
overflow_sub-result-else-turn-eq0 c =
    omega (
      arith,
      c.free_after_all-second.ensures.is,
      end_le c.free_after_all-first.result.0 (map cell_of c.args.self.now.cycle.now),
    )

pub returns-else-turn-eq0 : goal.returns-else-turn-eq0
returns-else-turn-eq0 c =
    record {
      is = start_is (map cell_of c.args.self.now.cycle.now) c.free_after_all-first.result.0 c.free_after_all-second.result.0 c.args.turn c.if-turn-eq0.false
          c.free_after_all-first.ensures.is
          c.free_after_all-second.ensures.is;
      near =
          let a : c.args.turn - 1 ≤ 32767 = omega arith in
          let b : c.free_after_all-second.result.0 - c.free_after_all-first.result.0 ≤ 71 * 16 = omega arith in
          omega (arith, mul-le-mul a b);
    }
