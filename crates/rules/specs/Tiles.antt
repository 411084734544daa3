-- Tiles divide the frame, and chroma divides a tile.
use Rattle.std.specs.Prelude.{ℕ, ◌+◌, ◌/◌, ◌%◌, Bool, ◌&&◌, ◌==◌, nat_le}
use Rattle.choices.specs.Choices.{across_of, down_of}
use Rattle.choices.specs.declared.choice.Sampling.{Sampling}
use Rattle.configuration.specs.declared.listing.Sizes.{Sizes}

abbrev pub side_fits : ℕ → Bool
side_fits n = nat_le 1 n && nat_le n 32768

-- a side of n is so many tiles, each a multiple of what chroma shares
abbrev pub divides : ℕ → ℕ → ℕ → Bool
divides n tiles shared = n % tiles == 0 && n / tiles % shared == 0

abbrev pub tiles_fit : Sampling → Sizes → ℕ → ℕ → Bool
tiles_fit s z width height =
    divides width (z.tile_columns_less_one + 1) (across_of s) && divides height (z.tile_rows_less_one + 1) (down_of s)
