use Rattle.std.proofs.Common.{ℕ, replicate, Ok, sym, ap, ◌∙◌, arith}
use lib.ListN.{length-replicate}
use Rattle.std.proofs.lemmas.List.{get_or-replicate}
use Rattle.store.proofs.Answering.{read_within}
use Rattle.store_tests.proofs.blank.BlankSource.read.Goals as goal

pub returns-then-at-len : goal.returns-then-at-len
returns-then-at-len c =
    let n : ℕ = c.args.self.now.count in
    ap (λ v. Ok v) (sym (get_or-replicate n c.args.at 0 0 (omega (arith, length-replicate {A = ℕ} n 0)))) ∙ read_within (replicate n 0) c.args.at (omega arith)
