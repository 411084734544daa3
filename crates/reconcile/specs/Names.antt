-- The component types of the standard, by name.
use Rattle.std.specs.Prelude.{ℕ, List, Some, None, codes, Option}
use Rattle.choices.specs.declared.component_type.ComponentType.{ComponentType}
use Rattle.choices.specs.declared.component_type.ComponentType.TheVariants.{Mono, Y, U, V, R, G, B, Alpha, Depth, Disparity, Palette, FilterArray, Padding, Cyan, Magenta, Yellow, Black, Other}

abbrev pub standard_name : ComponentType → Option (List ℕ)
standard_name Mono = Some (codes "mono")
standard_name Y = Some (codes "Y")
standard_name U = Some (codes "U")
standard_name V = Some (codes "V")
standard_name R = Some (codes "R")
standard_name G = Some (codes "G")
standard_name B = Some (codes "B")
standard_name Alpha = Some (codes "alpha")
standard_name Depth = Some (codes "depth")
standard_name Disparity = Some (codes "disparity")
standard_name Palette = Some (codes "palette")
standard_name FilterArray = Some (codes "filter array")
standard_name Padding = Some (codes "padding")
standard_name Cyan = Some (codes "cyan")
standard_name Magenta = Some (codes "magenta")
standard_name Yellow = Some (codes "yellow")
standard_name Black = Some (codes "black")
standard_name (Other number) = None
