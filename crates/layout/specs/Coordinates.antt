-- A place by its line.
use Rattle.std.specs.Prelude.{◌≡◌}
use Rattle.placement.specs.Place.{home, strip as strip_of, tile_at, line_at, turn_at, slot_at}
use Rattle.placement.specs.declared.place.Place.{Place}
use Rattle.layout.specs.Groups.{Draws}
use Rattle.plans.specs.Views.{View, plan_of}
use Rattle.layout.specs.declared.group.Group.{Group}
use Rattle.layout.specs.declared.coordinates.Coordinates.{Coordinates}

-- the group of a place's component
abbrev pub Grouped : View → Place → Group → Type 0
Grouped v p g = Draws v g (strip_of (plan_of v) (home (plan_of v) p.index))

pub record Stands (v : View) (p : Place) (c : Coordinates) : Type 0 where
  pub number : c.number ≡ home (plan_of v) p.index
  pub group : Grouped v p c.group
  pub tile : c.tile ≡ tile_at (plan_of v) p
  pub row : c.row ≡ line_at (plan_of v) p
  pub turn : c.seat.turn ≡ turn_at (plan_of v) p
  pub slot : c.seat.slot ≡ slot_at (plan_of v) p
