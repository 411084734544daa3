use Rattle.std.proofs.Common.{ℕ, List, ◌++◌, take, ap, ◌∙◌, arith}
use Rattle.store.specs.Ends.{most_bytes}
use Rattle.store.proofs.Answering.{write_refused}
use Rattle.store.proofs.Seams.{write-first, write-second, set_first, set-second, kept-first, kept_second}
use Rattle.store.proofs.join.JoinStore.write.Goals as goal

pub returns-then-at-seam : goal.returns-then-at-seam
returns-then-at-seam g c =
    let xs : List ℕ = g.A.Source.bytes c.args.self.now.first in
    let ys : List ℕ = g.B.Source.bytes c.args.self.now.second in
    record {
      answer = c.write.ensures.answer ∙ write-first most_bytes xs ys c.args.at (omega arith) (omega arith);
      after = ap (λ l. take most_bytes (l ++ ys)) c.write.ensures.after ∙ set_first most_bytes xs ys c.args.at (omega arith) (omega arith) c.args.value;
      beside = kept-first most_bytes xs ys c.args.at (omega arith) (omega arith) c.args.value _ _ _ _ c.write.ensures.after c.write.ensures.beside;
    }

pub returns-then-at-len : goal.returns-then-at-len
returns-then-at-len g c =
    let xs : List ℕ = g.A.Source.bytes c.args.self.now.first in
    let ys : List ℕ = g.B.Source.bytes c.args.self.now.second in
    record {
      answer = c.write-then-at-len.ensures.answer ∙ rw c.len-seam.ensures.is (write-second most_bytes xs ys c.args.at (omega arith) (omega arith));
      after = ap (λ l. take most_bytes (xs ++ l)) c.write-then-at-len.ensures.after ∙ rw c.len-seam.ensures.is (set-second most_bytes xs ys c.args.at (omega arith) (omega arith) c.args.value);
      beside = kept_second most_bytes xs ys c.args.at (omega arith) (omega arith) c.args.value _ _ _ _ (rw c.len-seam.ensures.is at c.write-then-at-len.ensures.after) c.write-then-at-len.ensures.beside;
    }

pub returns-else-at-len-clause-answer : goal.returns-else-at-len-clause-answer
returns-else-at-len-clause-answer g c = write_refused _ _ c.out_of_bounds.ensures (omega arith)
