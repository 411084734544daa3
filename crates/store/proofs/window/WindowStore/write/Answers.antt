use Rattle.std.proofs.Common.{ℕ, List, drop, ap, ◌∙◌}
use Rattle.std.proofs.lemmas.List.{drop-set-add}
use Rattle.store.specs.Ends.{window_bytes}
use Rattle.store.proofs.Answering.{take_of_set}
use Rattle.store.proofs.window.WindowStore.write.Goals as goal

pub returns-then-at-len-clause-after : goal.returns-then-at-len-clause-after
returns-then-at-len-clause-after g c =
    let w = c.args.self.now in
    let bs : List ℕ = g.S.Source.bytes w.below in
    ap (window_bytes w.start w.count) c.write.ensures.after ∙ rw drop-set-add (take_of_set w.count (drop w.start bs) c.args.at c.args.value)
