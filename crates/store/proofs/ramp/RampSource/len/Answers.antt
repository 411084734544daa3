use Rattle.std.proofs.Common.{arith}
use Rattle.std.proofs.lemmas.List.FromFn.{length-map-range_with_len}
use Rattle.store.specs.Ends.{ramp_bytes}
use Rattle.store.proofs.Octetting.{octets_ramp}
use Rattle.store.proofs.ramp.RampSource.len.Goals as goal

pub returns : goal.returns
unfolding ramp_bytes
returns c = record { is = simp length-map-range_with_len (omega arith); short = omega arith; each = octets_ramp 0 _ }
