use Rattle.placement.proofs.Again.{turns}
use Rattle.placement.proofs.laws.blocks_come_round.Goals as goal

pub returns : goal.returns
returns c = turns
