-- What the values of a component are, each type by its number.
use Rattle.std.specs.Prelude.{ℕ, List, [], ◌∷◌, slice_index_or}
use Rattle.choices.specs.declared.component_type.ComponentType.{ComponentType}
use Rattle.choices.specs.declared.component_type.ComponentType.TheVariants.{Mono, Y, U, V, R, G, B, Alpha, Depth, Disparity, Palette, FilterArray, Padding, Cyan, Magenta, Yellow, Black, Other}

-- the standard's types, by their numbers from 0 on
abbrev pub standard_types : List ComponentType
standard_types =
    Mono ∷ Y ∷ U ∷ V ∷ R ∷ G ∷ B ∷ Alpha ∷ Depth ∷ Disparity ∷ Palette ∷ FilterArray ∷ Padding ∷ Cyan ∷ Magenta ∷ Yellow ∷ Black ∷ []

-- the type that a number stands for
abbrev pub type_numbered : ℕ → ComponentType
type_numbered n = slice_index_or standard_types n (Other n)

abbrev pub type_number : ComponentType → ℕ
type_number Mono = 0
type_number Y = 1
type_number U = 2
type_number V = 3
type_number R = 4
type_number G = 5
type_number B = 6
type_number Alpha = 7
type_number Depth = 8
type_number Disparity = 9
type_number Palette = 10
type_number FilterArray = 11
type_number Padding = 12
type_number Cyan = 13
type_number Magenta = 14
type_number Yellow = 15
type_number Black = 16
type_number (Other n) = n
