use Rattle.plans.proofs.Deriving.{facts_of}
use Rattle.plans.proofs.laws.facts_hold.Goals as goal

pub returns : goal.returns
returns c = facts_of
