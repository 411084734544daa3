use Rattle.std.proofs.Common.{map, arith}
use Rattle.std.proofs.lemmas.List.{length-map}
use Rattle.plans.specs.Cells.{slot_of}
use Rattle.layout.proofs.Placing.{times_le}
use Rattle.layout.proofs.coordinates.Found.often.Goals as goal

pub returns-clause-few : goal.returns-clause-few
returns-clause-few c =
    let f = c.args.self.now in
    let cycle = c.args.group.line.cycle.now in
    omega (arith, c.occurrences.ensures, times_le f.place.index (map slot_of cycle), length-map cycle slot_of, c.args.group.line.fits.short)
