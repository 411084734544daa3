use Rattle.placement.proofs.Strided.{strides}
use Rattle.placement.proofs.laws.strides_even.Goals as goal

pub returns : goal.returns
returns c = strides
