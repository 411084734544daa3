use Rattle.std.proofs.Common.{length, ap, arith}
use Rattle.definition.proofs.Describing.{length_with_uri}
use Rattle.definition.proofs.component.Component.size.Goals as goal

pub returns-in-Some : goal.returns-in-Some
returns-in-Some c =
    let text = c.args.text.now in
    let n = length_with_uri text c.args.self.now c.in-Some.span c.in-Some.is in
    let e = ap length c.of.ensures.value in
    record { is = omega arith; bound = omega arith }
