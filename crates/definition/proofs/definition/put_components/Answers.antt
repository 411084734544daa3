use Rattle.std.proofs.Common.{◌+◌, length, get_or, sym, ap, ◌∙◌, arith}
use Rattle.definition.specs.Components.{plain}
use Rattle.definition.specs.Encoded.{described, described_bytes}
use Rattle.fields.specs.Put.{placed}
use Rattle.definition.proofs.Describing.{firsts, firsts_more, length_firsts_more, length_firsts_le, firsts_all}
use Rattle.fields.proofs.Placing.{then-placed}
use Rattle.definition.proofs.definition.put_components.Goals as goal

pub put-at-requires : goal.put-at-requires
put-at-requires c =
    let text = c.args.text.now in
    let cs = c.args.components.now in
    let i = c.loop-component.component-index in
    omega (arith, length_firsts_more text cs i (omega arith), length_firsts_le text cs (i + 1) (omega arith), ap length (firsts_all text cs (length cs) (omega arith)), c.requires)

pub loop-component-preserved : goal.loop-component-preserved
loop-component-preserved c =
    let o = c.args.out.now in
    let text = c.args.text.now in
    let cs = c.args.components.now in
    let i = c.loop-component.component-index in
    let more = length_firsts_more text cs i (omega arith) in
    let all = length_firsts_le text cs (i + 1) (omega arith) in
    let last = ap length (firsts_all text cs (length cs) (omega arith)) in (
      omega arith,
      then-placed o (firsts text cs i) (described_bytes (described text (get_or cs i plain))) 12 c.loop-component.at c.loop-component.invariant.1 c.put-at.ensures.bytes (omega arith) (omega arith)
          ∙ ap (placed o 12) (sym (firsts_more text cs i (omega arith))),
    )

pub returns : goal.returns
returns c = c.loop-component.invariant.1 ∙ ap (placed c.args.out.now 12) (firsts_all c.args.text.now c.args.components.now c.loop-component.component-index (omega arith))
