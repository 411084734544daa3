-- Bounds that keep the arithmetic of a line small.
use Rattle.std.specs.Prelude.{ℕ, ◌*◌, ◌<◌, ◌≤◌, ◌≢◌, List, length}
use Rattle.std.specs.List.{AllByRecursion}
use Rattle.plans.specs.declared.entry.Entry.{Entry}
use Rattle.plans.specs.declared.packing.Blocks.{Blocks}
use Rattle.plans.specs.declared.packing.Packing.{Packing}

-- an entry that the packing can hold
pub record Small (p : Packing) (e : Entry) : Type 0 where
  pub some : 0 < e.depth.0
  pub few : e.depth.0 ≤ 64
  pub align : e.align.0 ≤ 8
  pub in_block : p.blocks.bytes.0 ≢ 0 → e.depth.0 ≤ 8 * p.blocks.bytes.0

-- a cycle of entries, so many times in a line
pub record Fitting (p : Packing) (cycle : List Entry) (count : ℕ) : Type 0 where
  pub block : p.blocks.bytes.0 ≤ 8
  pub pixel : p.pixel.0 ≤ 65535
  pub row : p.row_align.0 ≤ 65536
  pub short : length cycle ≤ 16
  pub times : count ≤ 32768
  pub small : AllByRecursion (Small p) cycle

-- what of that a line without blocks rests on
pub record Narrow (e : Entry) : Type 0 where
  pub few : e.depth.0 ≤ 64
  pub align : e.align.0 ≤ 8

pub record Streams (cycle : List Entry) : Type 0 where
  pub short : length cycle ≤ 16
  pub narrow : AllByRecursion Narrow cycle

-- and what of it a line in blocks rests on
abbrev pub Within : Blocks → Entry → Type 0
Within b e = e.depth.0 ≤ 8 * b.bytes.0

pub record InBlocks (b : Blocks) (cycle : List Entry) : Type 0 where
  pub small : b.bytes.0 ≤ 8
  pub short : length cycle ≤ 16
  pub within : AllByRecursion (Within b) cycle
