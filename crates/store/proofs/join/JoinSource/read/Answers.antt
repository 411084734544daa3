use Rattle.std.proofs.Common.{ℕ, List, ◌∙◌, arith}
use Rattle.store.specs.Ends.{most_bytes}
use Rattle.store.proofs.Answering.{read_refused}
use Rattle.store.proofs.Seams.{read_first, read-second}
use Rattle.store.proofs.join.JoinSource.read.Goals as goal

pub returns-then-at-seam : goal.returns-then-at-seam
returns-then-at-seam g c =
    let xs : List ℕ = g.A.Source.bytes c.args.self.now.first in
    let ys : List ℕ = g.B.Source.bytes c.args.self.now.second in
    c.read.ensures ∙ read_first most_bytes xs ys c.args.at (omega arith) (omega arith)

pub returns-then-at-len : goal.returns-then-at-len
returns-then-at-len g c =
    let xs : List ℕ = g.A.Source.bytes c.args.self.now.first in
    let ys : List ℕ = g.B.Source.bytes c.args.self.now.second in
    c.read-then-at-len.ensures ∙ rw c.len-seam.ensures.is (read-second most_bytes xs ys c.args.at (omega arith) (omega arith))

pub returns-else-at-len : goal.returns-else-at-len
returns-else-at-len g c = read_refused _ _ c.out_of_bounds.ensures (omega arith)
