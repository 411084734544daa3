-- A line of a tile.
use Rattle.std.specs.Prelude.{ℕ, ◌<◌, ◌≤◌, length}
use Rattle.placement.specs.Place.{grid}
use Rattle.plans.specs.Views.{View, plan_of, strips_by}

pub record InTile (v : View) (t g y : ℕ) : Type 0 where
  pub tile : t < (grid (plan_of v)).tiles
  pub group : g < length (strips_by v.interleave v)
  pub row : y < ((grid (plan_of v)).group g).rows
  pub low : y ≤ 32768
