-- Without blocks: where a repetition of the cycle begins, by the bits of the first repetition and those of each later one.
use Rattle.std.specs.Prelude.{◌≡◌, ℕ, ◌+◌, ◌-◌, ◌*◌, ◌<◌, Bool, cond, List, map, length, ◌==◌, slice_index_or}
use Rattle.placement.specs.Pack.{Cell, nowhere, packed, packed_end}
use Rattle.placement.specs.Line.{repeated, moved}

-- the bits of a later repetition, with what rounds its words up
abbrev pub stride : List Cell → ℕ
stride cycle = packed_end (packed_end 0 cycle) cycle - packed_end 0 cycle

-- the next free bit before repetition r, where the first ends at `first`
abbrev pub begins : ℕ → ℕ → ℕ → ℕ
begins first step r = cond (r == 0) 0 (first + (r - 1) * step)

abbrev pub starts : List Cell → ℕ → ℕ
starts cycle r = begins (packed_end 0 cycle) (stride cycle) r

pub record Strides : Type 0 where
  -- packing does not see whole bytes
  pub end_moved : (es : List Cell) (p m : ℕ) → packed_end (p + 8 * m) es ≡ packed_end p es + 8 * m
  pub packed-moved : (little : Bool) (es : List Cell) (p m : ℕ) → packed little (p + 8 * m) es ≡ map (moved m) (packed little p es)
  -- so a line need not be walked
  pub ends : (cycle : List Cell) (r : ℕ) → packed_end 0 (repeated r cycle) ≡ starts cycle r
  pub word : (little : Bool) (cycle : List Cell) (count r c : ℕ) → r < count → c < length cycle
      → slice_index_or (packed little 0 (repeated count cycle)) (r * length cycle + c) nowhere ≡ slice_index_or (packed little (starts cycle r) cycle) c nowhere
