use Rattle.std.proofs.Common.{◌∙◌}
use Rattle.layout.specs.Layouts.{shown}
use Rattle.layout.proofs.Homes.{home_is}
use Rattle.layout.proofs.coordinates.Found.number.Goals as goal

pub returns : goal.returns
returns c =
    let f = c.args.self.now in
    c.group_number.ensures ∙ home_is (shown f.layout.now) f.place.index f.position f.first
