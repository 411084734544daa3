-- A line: a cycle of entries, repeated, with what rounds it up.
use Rattle.std.specs.Prelude.{◌≡◌, ℕ, zero, suc, ◌+◌, ◌-◌, ◌*◌, ◌/◌, ◌<◌, ◌≤◌, Bool, cond, ◌≢◌, List, [], ◌++◌, length, slice_index_or, ◌==◌}
use Rattle.std.specs.List.{AllByRecursion}
use Rattle.placement.specs.Word.{Word, Whole, spot}
use Rattle.placement.specs.Pack.{Cell, nowhere, packed, packed_end, Blocks, blocked, blocks_end}

-- n rounded up to a multiple of m, where m is not 0
abbrev pub up_to : ℕ → ℕ → ℕ
up_to n m = cond (m == 0) n ((n + (m - 1)) / m * m)

pub record Packing : Type 0 where
  pub little : Bool
  pub blocks : Blocks
  pub pixel : ℕ
  pub row_align : ℕ
  pub tile_align : ℕ

-- the words of a run of entries, and its bytes: in blocks, unless a block has 0 bytes
abbrev pub run : Packing → List Cell → List Word
run p es = cond (p.blocks.bytes == 0) (packed p.little 0 es) (blocked p.blocks 0 0 es)

abbrev pub run_bytes : Packing → List Cell → ℕ
run_bytes p es = cond (p.blocks.bytes == 0) ((packed_end 0 es + 7) / 8) (blocks_end p.blocks 0 0 es * p.blocks.bytes)

-- an entry that the packing can hold
pub record Holds (p : Packing) (e : Cell) : Type 0 where
  pub some : 0 < e.depth
  pub alone : p.blocks.bytes ≡ 0 → e.align ≢ 0 → e.depth ≤ 8 * e.align
  pub in_block : p.blocks.bytes ≢ 0 → e.depth ≤ 8 * p.blocks.bytes

abbrev pub repeated : {A : Type 0} → ℕ → List A → List A
repeated zero xs = []
repeated (suc n) xs = xs ++ repeated n xs

abbrev pub moved : ℕ → Word → Word
moved b w = record { first = b + w.first; size = w.size; little = w.little; low = w.low; depth = w.depth }

-- the word of entry c in repetition r: with a pixel size each repetition begins anew
abbrev pub line_word : Packing → List Cell → ℕ → ℕ → ℕ → Word
line_word p cycle count r c =
    cond (p.pixel == 0) (slice_index_or (run p (repeated count cycle)) (r * length cycle + c) nowhere)
    (moved (r * p.pixel) (slice_index_or (run p cycle) c nowhere))

abbrev pub line_bytes : Packing → List Cell → ℕ → ℕ
line_bytes p cycle count = up_to (cond (p.pixel == 0) (run_bytes p (repeated count cycle)) (count * p.pixel)) p.row_align

pub record CycleFits (p : Packing) (cycle : List Cell) : Type 0 where
  pub held : AllByRecursion (Holds p) cycle
  pub pixel : p.pixel ≢ 0 → run_bytes p cycle ≤ p.pixel

pub record LineSound (p : Packing) (cycle : List Cell) (count : ℕ) : Type 0 where
  pub deep : (r c : ℕ) (d : Cell) → r < count → c < length cycle → (line_word p cycle count r c).depth ≡ (slice_index_or cycle c d).depth
  pub whole : (r c : ℕ) → r < count → c < length cycle → Whole (line_word p cycle count r c)
  pub within : (r c i : ℕ) → r < count → c < length cycle → i < (line_word p cycle count r c).depth
      → spot (line_word p cycle count r c) i < 8 * line_bytes p cycle count
  pub apart : (r c i s d j : ℕ) → r < count → c < length cycle → i < (line_word p cycle count r c).depth
      → s < count → d < length cycle → j < (line_word p cycle count s d).depth
      → spot (line_word p cycle count r c) i ≡ spot (line_word p cycle count s d) j → (r ≡ s) × (c ≡ d) × (i ≡ j)

abbrev pub LinesStand : Type 0
LinesStand = (p : Packing) (cycle : List Cell) (count : ℕ) → CycleFits p cycle → LineSound p cycle count
