-- The rules on single entries: indexes, and depths with formats, types and aligns.
use Rattle.std.specs.Prelude.{ℕ, ◌+◌, ◌*◌, Bool, true, false, not, ◌&&◌, ◌||◌, List, is_some, Some, None, Option, ◌==◌, nat_le, nat_lt}
use Rattle.std.specs.List.{list_any}
use Rattle.choices.specs.declared.choice.Format.{Format}
use Rattle.choices.specs.declared.choice.Format.TheVariants.{Integer, Float, Complex}
use Rattle.choices.specs.declared.choice.Interleave.{Interleave}
use Rattle.choices.specs.declared.choice.Interleave.TheVariants.{Component, Pixel, Mixed, Row, TileComponent, MultiY}
use Rattle.configuration.specs.declared.entry.Entry.{Entry}

-- the type of each index, where it is defined
abbrev pub Types : Type 0
Types = ℕ → Option ℕ

abbrev pub is_number : Option ℕ → ℕ → Bool
is_number None number = false
is_number (Some n) number = n == number

-- the entry's component has the type with this number
abbrev pub is_of : Types → ℕ → Entry → Bool
is_of types number e = is_number (types e.index) number

abbrev pub is_multi_y : Interleave → Bool
is_multi_y Component = false
is_multi_y Pixel = false
is_multi_y Mixed = false
is_multi_y Row = false
is_multi_y TileComponent = false
is_multi_y MultiY = true

-- one of the entries lists the index
abbrev pub lists : ℕ → List Entry → Bool
lists index = list_any (λ e. e.index == index)

-- the index is defined, and was not listed before unless it is Y in interleave 5
abbrev pub indexed : Types → Interleave → List Entry → Entry → Bool
indexed types interleave earlier e =
    is_some (types e.index) && (not (lists e.index earlier) || (is_multi_y interleave && is_of types 1 e))

abbrev pub is_integer : Format → Bool
is_integer Integer = true
is_integer Float = false
is_integer Complex = false

-- the depths of a format: 1 to 64; 16, 32, 64; 32, 64
abbrev pub depth_fits : Format → ℕ → Bool
depth_fits Integer depth = nat_le 1 depth && nat_le depth 64
depth_fits Float depth = depth == 16 || (depth == 32 || depth == 64)
depth_fits Complex depth = depth == 32 || depth == 64

-- a word of at most eight bytes that has more bits than the value
abbrev pub align_fits : ℕ → ℕ → Bool
align_fits align depth = align == 0 || (nat_le align 8 && nat_lt depth (8 * align))

-- a palette's values are integers
abbrev pub deep : Types → List Entry → Entry → Bool
deep types earlier e =
    depth_fits e.format (e.depth_less_one + 1)
    && ((not (is_of types 10 e) || is_integer e.format) && align_fits e.align (e.depth_less_one + 1))
