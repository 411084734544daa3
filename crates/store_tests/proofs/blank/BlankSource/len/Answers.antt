use Rattle.std.proofs.Common.{ℕ, zero, suc, replicate, arith, lit<}
use lib.ListN.{length-replicate}
use Rattle.store.specs.Access.{Octets}
use Rattle.store_tests.proofs.blank.BlankSource.len.Goals as goal

octets_zeros : (n : ℕ) → Octets (replicate n 0)
octets_zeros zero at = lit< tt
octets_zeros (suc n) zero = lit< tt
octets_zeros (suc n) (suc at) = octets_zeros n at

pub returns : goal.returns
returns c = record { is = simp length-replicate (omega arith); short = omega arith; each = octets_zeros c.args.self.now.count }
