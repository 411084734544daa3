-- What a layout shows.
use Rattle.std.specs.Prelude.{ℕ, cond, length, Some, None, Option, Result, nat_lt}
use Rattle.std.specs.Result as result
use Rattle.fault.specs.declared.fault.Fault.{Fault}
use Rattle.layout.specs.Parts.{view_of}
use Rattle.placement.specs.Grid.{tile_of}
use Rattle.placement.specs.Place.{grid, line_of}
use Rattle.plans.specs.Views.{View, strip_at, order_of, plan_of}
use Rattle.layout.specs.declared.layout.Layout.{Layout}

abbrev pub shown : Layout → View
shown l = view_of l.frame.parts

abbrev pub shown_by : Result Layout Fault → Result View Fault
shown_by = result.result_map_both shown (λ f. f)

-- the bytes of a line, and of a tile, that holds the entry at a position of the list
abbrev pub line_size : View → ℕ → Option ℕ
line_size v n = cond (nat_lt n (length v.entries)) (Some (line_of (plan_of v) (strip_at v.interleave n))) None

abbrev pub tile_size : View → ℕ → Option ℕ
tile_size v n =
    cond (nat_lt n (length v.entries)) (Some (tile_of (order_of v.interleave) (grid (plan_of v)) (strip_at v.interleave n))) None
