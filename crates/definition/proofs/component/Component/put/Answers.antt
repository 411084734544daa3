use Rattle.std.proofs.Common.{◌+◌, [], ◌∷◌, ◌++◌, length, sym, ap, ◌∙◌, arith}
use Rattle.fields.specs.Put.{placed, half_bytes}
use Rattle.definition.proofs.Describing.{with_uri, length_with_uri}
use Rattle.fields.proofs.Placing.{put-placed, then-put}
use Rattle.definition.proofs.component.Component.put.Goals as goal

pub returns-in-Some : goal.returns-in-Some
returns-in-Some c =
    let text = c.args.text.now in
    let self = c.args.self.now in
    let o = c.args.out.now in
    let at = c.args.at in
    let uri = c.of-uri.result.now in
    let n = length_with_uri text self c.in-Some.span c.in-Some.is in
    let e = c.of-uri.ensures.value in
    let l = ap length e in
    let first = put-placed o (half_bytes self.number) at c.put_half.ensures (omega arith) in
    let h = then-put o (half_bytes self.number) uri at (at + 2) first c.put.ensures (omega arith) (omega arith) in
    let z = then-put o (half_bytes self.number ++ uri) (0 ∷ []) at (at + 2 + length uri) h c.put-in-Some.ensures (omega arith) (omega arith) in
    record {
      next = omega arith;
      bytes = z ∙ ap (λ u. placed o at (half_bytes self.number ++ u ++ 0 ∷ [])) e ∙ ap (placed o at) (sym (with_uri text self c.in-Some.span c.in-Some.is));
    }
