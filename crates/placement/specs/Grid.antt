-- Where the lines of a frame begin.
use Rattle.std.specs.Prelude.{◌≡◌, ℕ, zero, suc, ◌+◌, ◌*◌, ◌<◌}
use Rattle.placement.specs.Line.{up_to}

-- the sum of the first n values of f
abbrev pub summed : (ℕ → ℕ) → ℕ → ℕ
summed f zero = 0
summed f (suc n) = summed f n + f n

-- the lines of a group: how many in a tile, and their bytes
pub record Group : Type 0 where
  pub rows : ℕ
  pub bytes : ℕ

-- in a tile the lines of one group before the next group's; or a line of each group, row by row; or all tiles of one group before the next group's
pub data Order : Type 0 where
  by_group by_row by_tile : Order

pub record Grid : Type 0 where
  pub order : Order
  pub tiles : ℕ
  pub tile_align : ℕ
  pub groups : ℕ
  pub group : ℕ → Group

abbrev pub area : Grid → ℕ → ℕ
area f g = (f.group g).rows * (f.group g).bytes

abbrev pub line : Grid → ℕ → ℕ
line f g = (f.group g).bytes

-- the bytes of a tile; under by_tile, of a tile of the group g
abbrev pub tile_of : Order → Grid → ℕ → ℕ
tile_of by_group f g = up_to (summed (area f) f.groups) f.tile_align
tile_of by_row f g = up_to ((f.group 0).rows * summed (line f) f.groups) f.tile_align
tile_of by_tile f g = up_to (area f g) f.tile_align

-- the first byte of line y of the group g in the tile t
abbrev pub start_of : Order → Grid → ℕ → ℕ → ℕ → ℕ
start_of by_group f t g y = t * tile_of by_group f g + (summed (area f) g + y * line f g)
start_of by_row f t g y = t * tile_of by_row f g + (y * summed (line f) f.groups + summed (line f) g)
start_of by_tile f t g y = summed (λ h. f.tiles * tile_of by_tile f h) g + (t * tile_of by_tile f g + y * line f g)

abbrev pub start : Grid → ℕ → ℕ → ℕ → ℕ
start f t g y = start_of f.order f t g y

abbrev pub frame_of : Order → Grid → ℕ
frame_of by_group f = f.tiles * tile_of by_group f 0
frame_of by_row f = f.tiles * tile_of by_row f 0
frame_of by_tile f = summed (λ h. f.tiles * tile_of by_tile f h) f.groups

abbrev pub frame_bytes : Grid → ℕ
frame_bytes f = frame_of f.order f

-- byte b of line y of the group g in the tile t
pub record Inside (f : Grid) (t g y b : ℕ) : Type 0 where
  pub tile : t < f.tiles
  pub group : g < f.groups
  pub row : y < (f.group g).rows
  pub byte : b < (f.group g).bytes

-- under by_row the groups have as many rows as the first
abbrev pub EvenRows : Grid → Type 0
EvenRows f = f.order ≡ by_row → (g : ℕ) → g < f.groups → (f.group g).rows ≡ (f.group 0).rows

pub record GridSound (f : Grid) : Type 0 where
  pub within : (t g y b : ℕ) → Inside f t g y b → start f t g y + b < frame_bytes f
  pub apart : (t g y b t' g' y' b' : ℕ) → Inside f t g y b → Inside f t' g' y' b'
      → start f t g y + b ≡ start f t' g' y' + b' → (t ≡ t') × (g ≡ g') × (y ≡ y') × (b ≡ b')

abbrev pub GridsStand : Type 0
GridsStand = (f : Grid) → EvenRows f → GridSound f
