use Rattle.std.proofs.Common.{◌∙◌}
use Rattle.store.specs.Ends.{most_bytes}
use Rattle.store_tests.proofs.Returning.{written_back}
use Rattle.store_tests.proofs.lending.taken_back.Goals as goal

pub returns : goal.returns
returns c =
    let given = c.new-memory.result.buffer in
    let last = c.write.new.self.buffer in
    c.release.ensures.value
    ∙ written_back most_bytes given.ghost_name last.ghost_name c.args.at c.args.value c.args.buffer.now given.now last.now c.new-memory.ensures.value c.write.ensures.beside c.write.ensures.after
