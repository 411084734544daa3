-- The places of a frame, and the word of each.
use Rattle.std.specs.Prelude.{◌≡◌, ℕ, suc, ◌+◌, ◌-◌, ◌*◌, ◌/◌, ◌%◌, ◌<◌, cond, List, [], ◌∷◌, map, length, slice_index_or, ◌==◌}
use Rattle.placement.specs.declared.place.Place.{Place}
use Rattle.placement.specs.Word.{Word, Whole, spot}
use Rattle.placement.specs.Pack.{Cell}
use Rattle.placement.specs.Line.{Packing, line_word, line_bytes, moved, CycleFits}
use Rattle.placement.specs.Grid.{Order, Grid, start, frame_bytes, EvenRows}

-- one value of a cycle: of which component, and how it is stored
pub record Slot : Type 0 where
  pub index : ℕ
  pub cell : Cell

-- the lines that hold some components together: a cycle of their values, `count` times in a line, and `rows` lines in a tile
pub record Strip : Type 0 where
  pub cycle : List Slot
  pub count : ℕ
  pub rows : ℕ

-- all that decides where a bit lies
pub record Plan : Type 0 where
  pub packing : Packing
  pub order : Order
  pub tile_columns : ℕ
  pub tile_rows : ℕ
  pub strips : List Strip

abbrev pub no_slot : Slot
no_slot = record { index = 0; cell = record { depth = 0; align = 0 } }

abbrev pub no_strip : Strip
no_strip = record { cycle = []; count = 0; rows = 0 }

-- how often the component with the index c stands in a cycle, and where it stands for the k-th time, counted from 0
abbrev pub times : ℕ → List Slot → ℕ
times c [] = 0
times c (s ∷ ss) = cond (s.index == c) 1 0 + times c ss

abbrev pub nth : ℕ → ℕ → List Slot → ℕ
nth c k [] = 0
nth c k (s ∷ ss) = cond (s.index == c) (cond (k == 0) 0 (suc (nth c (k - 1) ss))) (suc (nth c k ss))

-- the first strip that has the component c
abbrev pub strip_with : ℕ → List Strip → ℕ
strip_with c [] = 0
strip_with c (s ∷ ss) = cond (times c s.cycle == 0) (suc (strip_with c ss)) 0

abbrev pub strip : Plan → ℕ → Strip
strip f g = slice_index_or f.strips g no_strip

abbrev pub cells : Plan → ℕ → List Cell
cells f g = map (λ s. s.cell) (strip f g).cycle

abbrev pub line_of : Plan → ℕ → ℕ
line_of f g = line_bytes f.packing (cells f g) (strip f g).count

abbrev pub grid : Plan → Grid
grid f = record {
  order = f.order;
  tiles = f.tile_rows * f.tile_columns;
  tile_align = f.packing.tile_align;
  groups = length f.strips;
  group = λ g. record { rows = (strip f g).rows; bytes = line_of f g };
}

-- of a component: its strip, how often it stands in the cycle, its columns and rows in a tile, and its depth
abbrev pub home : Plan → ℕ → ℕ
home f c = strip_with c f.strips

abbrev pub often : Plan → ℕ → ℕ
often f c = times c (strip f (home f c)).cycle

abbrev pub wide : Plan → ℕ → ℕ
wide f c = (strip f (home f c)).count * often f c

abbrev pub high : Plan → ℕ → ℕ
high f c = (strip f (home f c)).rows

abbrev pub depth_of : Plan → ℕ → ℕ
depth_of f c = (slice_index_or (strip f (home f c)).cycle (nth c 0 (strip f (home f c)).cycle) no_slot).cell.depth

-- of a place: its tile, and in the tile its line, the repetition of the cycle, and the slot in the cycle
abbrev pub tile_at : Plan → Place → ℕ
tile_at f p = p.row / high f p.index * f.tile_columns + p.column / wide f p.index

abbrev pub line_at : Plan → Place → ℕ
line_at f p = p.row % high f p.index

abbrev pub turn_at : Plan → Place → ℕ
turn_at f p = p.column % wide f p.index / often f p.index

abbrev pub slot_at : Plan → Place → ℕ
slot_at f p = nth p.index (p.column % wide f p.index % often f p.index) (strip f (home f p.index)).cycle

abbrev pub word_of : Plan → Place → Word
word_of f p =
    moved (start (grid f) (tile_at f p) (home f p.index) (line_at f p))
    (line_word f.packing (cells f (home f p.index)) (strip f (home f p.index)).count (turn_at f p) (slot_at f p))

-- the plan has the place
pub record Valid (f : Plan) (p : Place) : Type 0 where
  pub stored : home f p.index < length f.strips
  pub column : p.column < f.tile_columns * wide f p.index
  pub row : p.row < f.tile_rows * high f p.index

-- a component has the same depth wherever it stands in a cycle
abbrev pub Alike : List Slot → Type 0
Alike cycle =
    (n m : ℕ) → n < length cycle → m < length cycle → (slice_index_or cycle n no_slot).index ≡ (slice_index_or cycle m no_slot).index
    → (slice_index_or cycle n no_slot).cell.depth ≡ (slice_index_or cycle m no_slot).cell.depth

pub record PlanFits (f : Plan) : Type 0 where
  pub cycles : (g : ℕ) → g < length f.strips → CycleFits f.packing (cells f g)
  pub alike : (g : ℕ) → g < length f.strips → Alike (strip f g).cycle
  pub even : EvenRows (grid f)

-- each place has bits of its own, below the frame size
pub record PlanSound (f : Plan) : Type 0 where
  pub deep : (p : Place) → Valid f p → (word_of f p).depth ≡ depth_of f p.index
  pub some : (p : Place) → Valid f p → 0 < depth_of f p.index
  pub whole : (p : Place) → Valid f p → Whole (word_of f p)
  pub within : (p : Place) (i : ℕ) → Valid f p → i < depth_of f p.index → spot (word_of f p) i / 8 < frame_bytes (grid f)
  pub apart : (p q : Place) (i j : ℕ) → Valid f p → Valid f q → i < depth_of f p.index → j < depth_of f q.index
      → spot (word_of f p) i ≡ spot (word_of f q) j → (p ≡ q) × (i ≡ j)

abbrev pub PlansSound : Type 0
PlansSound = (f : Plan) → PlanFits f → PlanSound f
