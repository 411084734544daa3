use Rattle.std.proofs.Common.{[], ◌∷◌, ap, arith, length-take}
use Rattle.std.proofs.lemmas.List.{drop-set-lt}
use Rattle.store.specs.Ends.{most_bytes}
use Rattle.store.specs.Unwritten.{along, nothing}
use Rattle.store.proofs.Answering.{write_within, write_refused, take_of_set}
use Rattle.store.proofs.memory.MemoryStore.write.Goals as goal

pub bounds-self-at : goal.bounds-self-at
bounds-self-at c = omega (arith, length-take most_bytes c.args.self.now.buffer.now)

pub returns-then-at-len : goal.returns-then-at-len
returns-then-at-len c =
    let m = c.args.self.now in
    record {
      answer = write_within _ _ (omega arith);
      after = take_of_set most_bytes m.buffer.now c.args.at c.args.value;
      beside = ap (λ rest. along (m.buffer.ghost_name ∷ []) (along rest nothing)) (drop-set-lt most_bytes m.buffer.now c.args.at c.args.value (omega arith));
    }

pub returns-else-at-len-clause-answer : goal.returns-else-at-len-clause-answer
returns-else-at-len-clause-answer c = write_refused _ _ c.out_of_bounds.ensures (omega arith)
