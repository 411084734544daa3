use Rattle.std.proofs.Common.{arith, length-take}
use Rattle.store.specs.Ends.{most_bytes}
use Rattle.store.proofs.Octetting.{octets_take}
use Rattle.store.proofs.held.HeldSource.len.Goals as goal

pub returns : goal.returns
returns c =
    record {
      is = simp length-take (omega arith);
      short = omega arith;
      each = octets_take most_bytes c.args.self.now.bytes.now c.args.self.now.octets;
    }
