use Rattle.std.proofs.Common.{◌-◌, eqb, length, drop, ok_or, position, ap, ◌∙◌, arith}
use Rattle.std.proofs.lemmas.List.{take_all, length-drop}
use Rattle.fault.specs.Faults.{fault}
use Rattle.fault.specs.declared.reason.Reason.TheVariants.{Extent}
use Rattle.definition.proofs.Uris.{run_found}
use Rattle.definition.proofs.component.uri_at.Goals as goal

pub returns : goal.returns
returns c =
    let xs = c.args.reader.bytes.now in
    let at = c.args.at in
    let f = fault Extent c.args.reader.layer at in
    let all = take_all (length xs - at) (drop at xs) (omega (arith, length-drop at xs)) in
    c.ok_or.ensures.value ∙ ap (ok_or c.before_zero.result) c.refuses.ensures
    ∙ ap (λ o. ok_or o f) (c.before_zero.ensures ∙ ap (position (λ b. eqb b 0)) all) ∙ run_found xs at f c.requires
