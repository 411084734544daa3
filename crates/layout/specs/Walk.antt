-- What a walk along a line in blocks keeps.
use Prim.Native.Nat.{zero-le}
use Rattle.std.specs.Prelude.{◌≡◌, ℕ, List}
use Rattle.layout.specs.declared.blocks.State.{State}
use Rattle.plans.specs.declared.packing.Blocks.{Blocks}
use Rattle.plans.specs.Cells.{blocks_of}
use Rattle.placement.specs.Pack.{Cell, block_of, held}
use Rattle.placement.specs.Steps.{block_after, held_after}

-- the first block, with nothing in it
abbrev pub origin : State
origin = record { block = 0; bits = record { 0 = 0 }; few = zero-le }

-- behind the state s, the state t before d bits more
pub record Opened (b : Blocks) (s : State) (d : ℕ) (t : State) : Type 0 where
  pub block : t.block ≡ block_of (blocks_of b) s.block s.bits.0 d
  pub bits : t.bits.0 ≡ held (blocks_of b) s.bits.0 d

-- behind the state s, the state t after the cells
pub record Walked (b : Blocks) (s : State) (es : List Cell) (t : State) : Type 0 where
  pub block : t.block ≡ block_after (blocks_of b) s.block s.bits.0 es
  pub bits : t.bits.0 ≡ held_after (blocks_of b) s.bits.0 es
