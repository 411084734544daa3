use Rattle.std.proofs.Common.{ℕ, List, ◌∙◌, arith}
use Rattle.store.proofs.Counting.{copy_turn, copy_end}
use Rattle.store.proofs.copying.copy.Goals as goal

pub loop-at-preserved : goal.loop-at-preserved
loop-at-preserved g c =
    let from : List ℕ = g.S.Source.bytes c.args.from.now in
    let to : List ℕ = g.T.Source.bytes c.args.to.now in
    let old : List ℕ = g.T.Source.bytes c.loop-at.to in
    let new : List ℕ = g.T.Source.bytes c.write.new.self in (
      copy_turn from to c.loop-at.at old new c.byte_at.result (omega arith) (omega arith) c.loop-at.invariant.0 c.byte_at.ensures c.write.ensures.after,
      c.write.ensures.beside ∙ c.loop-at.invariant.1,
    )

pub returns : goal.returns
returns g c =
    let from : List ℕ = g.S.Source.bytes c.args.from.now in
    let to : List ℕ = g.T.Source.bytes c.args.to.now in
    record {
      count = omega arith;
      after = c.loop-at.invariant.0 ∙ copy_end from to c.loop-at.at (omega arith);
      beside = c.loop-at.invariant.1;
    }
