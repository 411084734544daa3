-- What a group of entries stands for.
use Rattle.std.specs.Prelude.{◌≡◌, map}
use Rattle.placement.specs.Place.{Strip}
use Rattle.plans.specs.Cells.{slot_of}
use Rattle.plans.specs.Views.{View}
use Rattle.layout.specs.declared.group.Group.{Group}

abbrev pub strip_in : Group → Strip
strip_in g = record { cycle = map slot_of g.line.cycle.now; count = g.line.count; rows = g.rows }

-- a group draws a strip of the view
pub record Draws (v : View) (g : Group) (s : Strip) : Type 0 where
  pub strip : strip_in g ≡ s
  pub packing : g.line.packing.now ≡ v.packing
