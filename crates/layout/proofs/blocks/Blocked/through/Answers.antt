use Rattle.std.proofs.Common.{arith}
use Rattle.layout.proofs.Rounds.{entry_on}
use Rattle.layout.proofs.blocks.Blocked.through.Goals as goal

pub loop-entry-preserved : goal.loop-entry-preserved
loop-entry-preserved c = (
  omega (arith, c.loop-entry.invariant.0, c.past-t.ensures.near),
  entry_on c.args.entries.now c.loop-entry.entry-index (omega arith) c.loop-entry.invariant.1 c.past-t.ensures.is,
)
