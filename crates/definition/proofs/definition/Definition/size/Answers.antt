use Rattle.std.proofs.Common.{map, length, ap, arith}
use Rattle.std.specs.List.{flat_map}
use Rattle.definition.specs.Encoded.{described, described_bytes}
use Rattle.definition.proofs.Describing.{length_firsts_more, firsts_all}
use Rattle.definition.proofs.definition.Definition.size.Goals as goal

pub loop-component-preserved : goal.loop-component-preserved
loop-component-preserved c =
    let more = length_firsts_more c.args.self.now.text.now c.components-component-items.result.now c.loop-component.component-index (omega arith) in
    (omega arith, omega arith)

pub returns : goal.returns
returns c =
    let text = c.args.self.now.text.now in
    let cs = c.components-component-items.result.now in
    let all = ap length (firsts_all text cs c.loop-component.component-index (omega arith)) in
    let value = ap (λ z. length (flat_map described_bytes (map (described text) z))) c.components-component-items.ensures.value in
    record { is = omega arith }
