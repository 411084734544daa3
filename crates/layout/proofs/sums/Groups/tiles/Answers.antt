use Rattle.std.proofs.Common.{ℕ, ◌*◌, ap, ◌∙◌}
use Rattle.placement.specs.Grid.{by_tile, tile_of}
use Rattle.placement.specs.Place.{grid}
use Rattle.layout.specs.Parts.{view_of}
use Rattle.plans.specs.Views.{plan_of}
use Rattle.layout.proofs.Summing.{summed_times}
use Rattle.layout.proofs.sums.Groups.tiles.Goals as goal

pub returns : goal.returns
returns c =
    let g = grid (plan_of (view_of c.args.self.now.frame.now.parts)) in
    c.all_tiles.ensures.is ∙ ap (λ (x : ℕ). g.tiles * x) c.tiles_alone.ensures.is ∙ summed_times g.tiles (tile_of by_tile g) c.args.self.now.count
