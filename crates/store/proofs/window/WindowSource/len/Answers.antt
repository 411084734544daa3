use Rattle.std.proofs.Common.{ℕ, List, drop}
use Rattle.store.proofs.Octetting.{octets_take, octets_drop}
use Rattle.store.proofs.window.WindowSource.len.Goals as goal

pub returns-clause-each : goal.returns-clause-each
returns-clause-each g c =
    let w = c.args.self.now in
    let bs : List ℕ = g.S.Source.bytes w.below in
    octets_take w.count (drop w.start bs) (octets_drop w.start bs c.len.ensures.each)
