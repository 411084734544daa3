use Rattle.std.proofs.Common.{arith}
use Rattle.layout.proofs.Strides.{bits_step}
use Rattle.layout.proofs.stream.free_after_all.Goals as goal

pub loop-entry-preserved : goal.loop-entry-preserved
loop-entry-preserved c = (
  omega arith,
  bits_step c.args.entries.now c.args.free.0 c.loop-entry.at.0 c.free_after-at.result.0 c.loop-entry.entry-index (omega arith) c.loop-entry.invariant.1 c.free_after-at.ensures.next,
)
