use Rattle.placement.proofs.Places.{plans_sound}
use Rattle.placement.proofs.laws.plans_sound.Goals as goal

pub returns : goal.returns
returns c = plans_sound
