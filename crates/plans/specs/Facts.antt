-- What an accepted view is known to be.
use Rattle.std.specs.Prelude.{◌≡◌, ℕ, ◌*◌, ◌<◌, ◌≤◌, length, slice_index_or}
use Rattle.std.specs.List.{AllByRecursion}
use Rattle.choices.specs.declared.choice.Interleave.TheVariants.{Mixed}
use Rattle.placement.specs.Place.{home, wide, high, depth_of, PlanFits}
use Rattle.plans.specs.Entries.{no_entry}
use Rattle.plans.specs.Fit.{Small}
use Rattle.plans.specs.Views.{View, plan_of, strips_by}
use Rattle.plans.specs.declared.entry.Entry.{Entry}

-- an entry's grid is its component's part of a tile, for all tiles
pub record Gridded (v : View) (e : Entry) : Type 0 where
  pub stored : home (plan_of v) e.index < length (strips_by v.interleave v)
  pub columns : e.columns ≡ v.tile_columns * wide (plan_of v) e.index
  pub rows : e.rows ≡ v.tile_rows * high (plan_of v) e.index
  pub depth : e.depth.0 ≡ depth_of (plan_of v) e.index

pub record Facts (v : View) : Type 0 where
  pub few : length v.entries ≤ 16
  pub cells : AllByRecursion (Small v.packing) v.entries
  pub block : v.packing.blocks.bytes.0 ≤ 8
  pub pixel : v.packing.pixel.0 ≤ 65535
  pub row : v.packing.row_align.0 ≤ 65536
  pub tile : v.packing.tile_align.0 ≤ 1048576
  pub width : v.width ≤ 32768
  pub height : v.height ≤ 32768
  pub across : (0 < v.tile_columns) × (v.tile_columns ≤ 32768)
  pub down : (0 < v.tile_rows) × (v.tile_rows ≤ 32768)
  pub three : v.interleave ≡ Mixed → length v.entries ≡ 3
  pub grids : (n : ℕ) → n < length v.entries → Gridded v (slice_index_or v.entries n no_entry)
  pub columns : (n : ℕ) → n < length v.entries → (slice_index_or v.entries n no_entry).columns ≤ 32768
  pub rows : (n : ℕ) → n < length v.entries → (slice_index_or v.entries n no_entry).rows ≤ 32768
  pub fits : PlanFits (plan_of v)
