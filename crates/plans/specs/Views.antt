-- A layout as its rules see it: from two boxes, a width and a height to the lines of a frame.
use Rattle.std.specs.Prelude.{◌≡◌, ℕ, ◌+◌, ◌/◌, ◌≤◌, min, true, ◌&&◌, List, [], ◌∷◌, map, length, take, drop, Ok, Result, nat_le}
use Rattle.fault.specs.declared.fault.Fault.{Fault}
use Rattle.fault.specs.declared.reason.Reason.TheVariants.{FrameSize}
use Rattle.fields.specs.Field.{then, check}
use Rattle.choices.specs.Choices.{across_of, down_of}
use Rattle.choices.specs.declared.choice.Interleave.{Interleave}
use Rattle.choices.specs.declared.choice.Interleave.TheVariants.{Component, Pixel, Mixed, Row, TileComponent, MultiY}
use Rattle.choices.specs.declared.choice.Sampling.{Sampling}
use Rattle.choices.specs.declared.flags.Flags.{Flags}
use Rattle.configuration.specs.Configurations.{listing_for}
use Rattle.configuration.specs.Encoded.{listed}
use Rattle.configuration.specs.declared.listing.Listing.{Listing}
use Rattle.configuration.specs.declared.listing.Sizes.{Sizes}
use Rattle.boxes.specs.Pairs.{type_of}
use Rattle.boxes.specs.declared.boxes.Boxes.{Boxes}
use Rattle.rules.specs.Entries.{Types}
use Rattle.rules.specs.Rules.{broken}
use Rattle.rules.specs.Tiles.{side_fits}
use Rattle.rules.specs.Whole.{list_kept, kept}
use Rattle.placement.specs.Grid.{Order, by_group, by_row, by_tile, frame_bytes}
use Rattle.placement.specs.Place.{Strip, Plan, grid}
use Rattle.plans.specs.Cells.{slot_of, packing_of}
use Rattle.plans.specs.Entries.{entry_for}
use Rattle.plans.specs.declared.entry.Entry.{Entry}
use Rattle.plans.specs.declared.packing.Packing.{Packing}

pub record View : Type 0 where
  pub width : ℕ
  pub height : ℕ
  pub sampling : Sampling
  pub interleave : Interleave
  pub packing : Packing
  pub tile_columns : ℕ
  pub tile_rows : ℕ
  pub entries : List Entry

-- a tile's columns and rows of the whole frame
abbrev pub tile_width : View → ℕ
tile_width v = v.width / v.tile_columns

abbrev pub tile_height : View → ℕ
tile_height v = v.height / v.tile_rows

-- lines of one entry: in a tile a line for each row of its grid, in a line a value for each column
abbrev pub alone : View → Entry → Strip
alone v e = record { cycle = slot_of e ∷ []; count = e.columns / v.tile_columns; rows = e.rows / v.tile_rows }

-- lines of some entries together: so many lines in a tile, and in a line the entries' values so many times
abbrev pub together : List Entry → ℕ → ℕ → Strip
together es count rows = record { cycle = map slot_of es; count = count; rows = rows }

-- which entries share lines
abbrev pub strips_by : Interleave → View → List Strip
-- for each entry, a line per row
strips_by Component v = map (alone v) v.entries
-- a line per row, in which each column gives one pixel
strips_by Pixel v = together v.entries (tile_width v) (tile_height v) ∷ []
-- a line per Y row, then a line per chroma row, in which each column gives both chroma values
strips_by Mixed v =
    together (take 1 v.entries) (tile_width v) (tile_height v)
    ∷ together (drop 1 v.entries) (tile_width v / across_of v.sampling) (tile_height v / down_of v.sampling)
    ∷ []
-- for each row, a line per entry
strips_by Row v = map (alone v) v.entries
-- as the first, tile by tile for one entry before the next
strips_by TileComponent v = map (alone v) v.entries
-- a line per row, in which two or four columns give one group
strips_by MultiY v = together v.entries (tile_width v / across_of v.sampling) (tile_height v) ∷ []

-- which of the strips has the entry at a position of the list
abbrev pub strip_at : Interleave → ℕ → ℕ
strip_at Component n = n
strip_at Pixel n = 0
strip_at Mixed n = min n 1
strip_at Row n = n
strip_at TileComponent n = n
strip_at MultiY n = 0

-- in which order the lines follow one another
abbrev pub order_of : Interleave → Order
order_of Component = by_group
order_of Pixel = by_group
order_of Mixed = by_group
order_of Row = by_row
order_of TileComponent = by_tile
order_of MultiY = by_group

abbrev pub plan_of : View → Plan
plan_of v =
    record {
      packing = packing_of v.packing;
      order = order_of v.interleave;
      tile_columns = v.tile_columns;
      tile_rows = v.tile_rows;
      strips = strips_by v.interleave v;
    }

-- the bytes of a frame: the sum of its tiles
abbrev pub size_of : View → ℕ
size_of v = frame_bytes (grid (plan_of v))

abbrev pub packing_for : ℕ → Flags → Sizes → Packing
packing_for block f s =
    record {
      little = f.components_little_endian;
      blocks =
          record {
            bytes = record { 0 = block };
            little = f.block_little_endian;
            pad_low = f.pad_low;
            reversed = f.block_reversed;
          };
      pixel = record { 0 = s.pixel_size };
      row_align = record { 0 = s.row_align };
      tile_align = record { 0 = s.tile_align };
    }

abbrev pub view_by : Types → Listing → ℕ → ℕ → View
view_by types l width height =
    record {
      width = width;
      height = height;
      sampling = l.packing.sampling;
      interleave = l.packing.interleave;
      packing = packing_for l.packing.block l.packing.flags l.sizes;
      tile_columns = l.sizes.tile_columns_less_one + 1;
      tile_rows = l.sizes.tile_rows_less_one + 1;
      entries = map (entry_for types l.packing.sampling width height) (listed l);
    }

-- of two boxes, a width and a height
abbrev pub view_for : Boxes → ℕ → ℕ → View
view_for b width height = view_by (type_of b) (listing_for b.configuration) width height

-- the rules in the order of their numbers, the largest frame last
abbrev pub layout_answer : Boxes → ℕ → ℕ → Result View Fault
layout_answer b width height =
    then (kept b width height) (λ _.
    then (check (nat_le (size_of (view_for b width height)) 4294967295) (broken FrameSize)) (λ _.
    Ok (view_for b width height)))

-- a view that the rules on the list accept, for some list and types
pub record Accepted (v : View) : Type 0 where
  pub types : Types
  pub listing : Listing
  pub few : length (listed listing) ≤ 16
  pub sides : side_fits v.width && side_fits v.height ≡ true
  pub kept : list_kept types listing (listed listing) v.width v.height ≡ Ok tt
  pub is : v ≡ view_by types listing v.width v.height
