use Rattle.std.proofs.Common.{◌^◌, arith, rules}
use Rattle.layout.proofs.sums.Groups.lines.Goals as goal

pub returns-clause-near : goal.returns-clause-near
returns-clause-near c = omega (arith, c.sum_below.ensures.near (2 ^ 33) (λ h r l p. search rules))
