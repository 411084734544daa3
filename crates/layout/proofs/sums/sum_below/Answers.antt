use Rattle.std.proofs.Common.{◌^◌, ◌≤◌, mul-le-mul_right, arith}
use Rattle.layout.proofs.sums.sum_below.Goals as goal

pub overflow_add-sum : goal.overflow_add-sum
overflow_add-sum g c =
    record {
      fits = omega (
        arith,
        c.loop-h.invariant.near (2 ^ 53) c.requires.small,
        c.requires.small c.loop-h.h c.each-sum.result c.loop-h-test.true c.each-sum.ensures,
        c.requires.few,
      );
    }

pub returns-clause-near : goal.returns-clause-near
returns-clause-near g c m p =
    let few : c.loop-h.h ≤ 16 = omega (arith, c.requires.few) in
    omega (arith, c.loop-h.invariant.near m p, mul-le-mul_right m few)
