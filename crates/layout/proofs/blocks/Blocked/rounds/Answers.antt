use Rattle.std.proofs.Common.{arith}
use Rattle.layout.proofs.Rounds.{turn_on}
use Rattle.layout.proofs.blocks.Blocked.rounds.Goals as goal

pub loop-turn-preserved : goal.loop-turn-preserved
loop-turn-preserved c = (
  omega (arith, c.through-t.ensures.near, c.loop-turn.invariant.0),
  turn_on c.args.self.now.cycle.now c.loop-turn._turn c.loop-turn.invariant.1 c.through-t.ensures.is,
)
