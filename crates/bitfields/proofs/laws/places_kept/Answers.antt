use Rattle.bitfields.proofs.Placed.{plans_keep}
use Rattle.bitfields.proofs.laws.places_kept.Goals as goal

pub returns : goal.returns
returns c = plans_keep
