use Rattle.std.proofs.Common.{◌≡◌, ℕ, List, ap, ◌∙◌, rules}
use Rattle.store.specs.Access.{write_answer}
use Rattle.store.specs.Ends.{most_bytes, cut}
use Rattle.store_tests.proofs.Returning.{same_name, written_back}
use Rattle.store_tests.proofs.lending.put.Goals as goal

pub returns : goal.returns
returns c =
    let old : List ℕ = c.args.buffer.now in
    let given = c.new-memory.result.buffer in
    let last = c.write.new.self.buffer in
    let name : last.ghost_name ≡ given.ghost_name =
    same_name most_bytes given.ghost_name last.ghost_name c.args.at c.args.value old given.now last.now c.new-memory.ensures.value c.write.ensures.beside in
    let content =
    written_back most_bytes given.ghost_name last.ghost_name c.args.at c.args.value old given.now last.now c.new-memory.ensures.value c.write.ensures.beside c.write.ensures.after in
    record {
      answer = c.write.ensures.answer ∙ ap (λ l. write_answer (cut l) c.args.at) c.new-memory.ensures.value;
      after = search rules ∙ content;
    }
