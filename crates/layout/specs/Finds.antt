-- A place that was found, and the part that the frame lacks of one that was not.
use Rattle.std.specs.Prelude.{◌≡◌, ℕ, Result}
use Rattle.std.specs.Result as result
use Rattle.fault.specs.declared.fault.Fault.{Fault}
use Rattle.placement.specs.declared.place.Place.{Place}
use Rattle.layout.specs.declared.coordinates.Found.{Found}
use Rattle.layout.specs.declared.layout.Layout.{Layout}
use Rattle.layout.specs.declared.locate.Part.{Part}
use Rattle.layout.specs.declared.locate.Part.TheVariants.{Component, Column, Row, Bit}

abbrev pub part_number : Part → ℕ
part_number Component = 0
part_number Column = 1
part_number Row = 2
part_number Bit = 3

abbrev pub position_in : Result Found Fault → Result ℕ Fault
position_in = result.result_map_both (λ f. f.position) (λ f. f)

-- the place, in this layout
pub record Finds (l : Layout) (p : Place) (f : Found) : Type 0 where
  pub layout : f.layout.now ≡ l
  pub place : f.place ≡ p
