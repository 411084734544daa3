use Rattle.std.proofs.Common.{◌<◌, arith, get_or-take, length-take}
use Rattle.store.specs.Ends.{most_bytes}
use Rattle.store.proofs.Answering.{read_within, read_refused}
use Rattle.store.proofs.held.HeldSource.read.Goals as goal

pub bounds-self-at : goal.bounds-self-at
bounds-self-at c = omega (arith, length-take most_bytes c.args.self.now.bytes.now)

pub returns-then-at-len : goal.returns-then-at-len
returns-then-at-len c =
    let l : c.args.at < most_bytes = omega arith in
    rw (← get_or-take most_bytes c.args.self.now.bytes.now c.args.at 0 l) (read_within _ _ (omega arith))

pub returns-else-at-len : goal.returns-else-at-len
returns-else-at-len c = read_refused _ _ c.out_of_bounds.ensures (omega arith)
