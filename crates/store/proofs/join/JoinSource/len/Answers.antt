use Rattle.std.proofs.Common.{ℕ, List, ◌++◌, arith}
use Rattle.store.specs.Ends.{most_bytes}
use Rattle.store.proofs.Octetting.{octets_take, octets_append}
use Rattle.store.proofs.Seams.{length_join}
use Rattle.store.proofs.join.JoinSource.len.Goals as goal

pub returns : goal.returns
returns g c =
    let xs : List ℕ = g.A.Source.bytes c.args.self.now.first in
    let ys : List ℕ = g.B.Source.bytes c.args.self.now.second in
    record {
      is = omega (arith, length_join most_bytes xs ys);
      short = omega arith;
      each = octets_take most_bytes (xs ++ ys) (octets_append xs ys c.len.ensures.each c.len-2.ensures.each);
    }
