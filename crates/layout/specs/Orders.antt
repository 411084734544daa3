-- The order of lines that a value of the code means.
use Rattle.layout.specs.declared.order.Order as code
use Rattle.layout.specs.declared.order.Order.TheVariants.{ByGroup, ByRow, ByTile}
use Rattle.placement.specs.Grid.{Order, by_group, by_row, by_tile}

abbrev pub order_in : code.Order → Order
order_in ByGroup = by_group
order_in ByRow = by_row
order_in ByTile = by_tile
