use Rattle.layout.specs.Words.{word_in}
use Rattle.layout.proofs.Strides.{word_is}
use Rattle.layout.proofs.stream.Stream.word.Goals as goal

pub returns-clause-is : goal.returns-clause-is
returns-clause-is c =
    let s = c.args.self.now in
    word_is s.little s.cycle.now s.count c.args.seat.turn c.args.seat.slot c.start_of.result.0 c.free_after_all-free.result.0
    (word_in c.word_after.result) c.requires.turn c.requires.slot c.start_of.ensures.is c.free_after_all-free.ensures.is c.word_after.ensures.is
