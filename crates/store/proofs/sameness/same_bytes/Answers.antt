use Rattle.std.proofs.Common.{ℕ, List, sym, refl, ◌∙◌, arith}
use Rattle.std.proofs.lemmas.List.{take_more_same, take_all}
use Rattle.store.proofs.sameness.same_bytes.Goals as goal

pub loop-at-preserved : goal.loop-at-preserved
loop-at-preserved g c =
    let xs : List ℕ = g.S.Source.bytes c.args.one.now in
    let ys : List ℕ = g.T.Source.bytes c.args.other.now in
    take_more_same xs ys c.loop-at.at 0 (omega arith) (omega arith) c.loop-at.invariant
    (sym c.byte_at.ensures ∙ c.if-byte_at.false ∙ c.byte_at-in-loop-at.ensures)

pub returns : goal.returns
returns g c =
    let xs : List ℕ = g.S.Source.bytes c.args.one.now in
    let ys : List ℕ = g.T.Source.bytes c.args.other.now in (
      (λ _. sym (take_all c.loop-at.at xs (omega arith)) ∙ c.loop-at.invariant ∙ take_all c.loop-at.at ys (omega arith)),
      (λ _. refl),
    )
