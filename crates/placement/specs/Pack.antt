-- How the values of a line are packed: a fold along the line gives each value its word.
use Rattle.std.specs.Prelude.{◌≡◌, ℕ, ◌+◌, ◌-◌, ◌*◌, ◌/◌, ◌<◌, ◌≤◌, Bool, false, cond, ◌≢◌, List, [], ◌∷◌, fold, length, slice_index_or, ◌==◌, nat_le}
use Rattle.std.specs.List.{AllByRecursion}
use Rattle.placement.specs.Word.{Word, Whole, spot}

-- a value of `depth` bits; `align` is 0, or the bytes of the word that it has to itself
pub record Cell : Type 0 where
  pub depth : ℕ
  pub align : ℕ

abbrev pub nowhere : Word
nowhere = record { first = 0; size = 0; little = false; low = 0; depth = 0 }

-- Without blocks: p is the next free bit of the line.

-- the next `depth` bits
abbrev pub streamed : ℕ → ℕ → Word
streamed p d = record { first = p / 8; size = (p + d + 7) / 8 - p / 8; little = false; low = (p + d + 7) / 8 * 8 - (p + d); depth = d }

-- the low bits of a word that begins at the next whole byte
abbrev pub aligned : Bool → ℕ → Cell → Word
aligned little p e = record { first = (p + 7) / 8; size = e.align; little = little; low = 0; depth = e.depth }

abbrev pub packed_word : Bool → ℕ → Cell → Word
packed_word little p e = cond (e.align == 0) (streamed p e.depth) (aligned little p e)

-- the next free bit after the entry
abbrev pub after : ℕ → Cell → ℕ
after p e = cond (e.align == 0) (p + e.depth) (8 * ((p + 7) / 8 + e.align))

abbrev pub packed : Bool → ℕ → List Cell → List Word
packed little p [] = []
packed little p (e ∷ es) = packed_word little p e ∷ packed little (after p e) es

abbrev pub packed_end : ℕ → List Cell → ℕ
packed_end = fold after

-- an entry that a line without blocks can hold
pub record Packable (e : Cell) : Type 0 where
  pub some : 0 < e.depth
  pub inside : e.align ≢ 0 → e.depth ≤ 8 * e.align

-- With blocks: k blocks are closed, and the block k has o bits so far.
pub record Blocks : Type 0 where
  pub bytes : ℕ
  pub little : Bool
  pub pad_low : Bool
  pub reversed : Bool

-- the bits that a block with o bits so far has in the end
abbrev pub total : Blocks → ℕ → List Cell → ℕ
total b o [] = o
total b o (e ∷ es) = cond (nat_le (o + e.depth) (8 * b.bytes)) (total b (o + e.depth) es) o

-- the block that takes d bits more, and what it holds before them
abbrev pub block_of : Blocks → ℕ → ℕ → ℕ → ℕ
block_of b k o d = cond (nat_le (o + d) (8 * b.bytes)) k (k + 1)

abbrev pub held : Blocks → ℕ → ℕ → ℕ
held b o d = cond (nat_le (o + d) (8 * b.bytes)) o 0

-- the lowest weight of d bits after o bits, in a block of t bits in all
abbrev pub low_in : Blocks → ℕ → ℕ → ℕ → ℕ
low_in b o t d = cond b.pad_low (8 * b.bytes - t) 0 + cond b.reversed o (t - (o + d))

abbrev pub block_word : Blocks → ℕ → ℕ → ℕ → ℕ → Word
block_word b k o t d = record { first = k * b.bytes; size = b.bytes; little = b.little; low = low_in b o t d; depth = d }

abbrev pub blocked : Blocks → ℕ → ℕ → List Cell → List Word
blocked b k o [] = []
blocked b k o (e ∷ es) =
    block_word b (block_of b k o e.depth) (held b o e.depth) (total b (held b o e.depth + e.depth) es) e.depth
    ∷ blocked b (block_of b k o e.depth) (held b o e.depth + e.depth) es

-- the blocks in all
abbrev pub blocks_end : Blocks → ℕ → ℕ → List Cell → ℕ
blocks_end b k o [] = cond (o == 0) k (k + 1)
blocks_end b k o (e ∷ es) = blocks_end b (block_of b k o e.depth) (held b o e.depth + e.depth) es

pub record Blockable (b : Blocks) (e : Cell) : Type 0 where
  pub some : 0 < e.depth
  pub inside : e.depth ≤ 8 * b.bytes

-- the words of a line, in their order, are sound in `size` bytes: no two bits are the same, and each is below the end
pub record Sound (ws : List Word) (size : ℕ) : Type 0 where
  pub whole : (n : ℕ) → n < length ws → Whole (slice_index_or ws n nowhere)
  pub within : (n i : ℕ) → n < length ws → i < (slice_index_or ws n nowhere).depth → spot (slice_index_or ws n nowhere) i < 8 * size
  pub apart : (n m i j : ℕ) → n < length ws → m < length ws → i < (slice_index_or ws n nowhere).depth → j < (slice_index_or ws m nowhere).depth
      → spot (slice_index_or ws n nowhere) i ≡ spot (slice_index_or ws m nowhere) j → (n ≡ m) × (i ≡ j)

abbrev pub PackedStands : Type 0
PackedStands = (little : Bool) (es : List Cell) → AllByRecursion Packable es → Sound (packed little 0 es) ((packed_end 0 es + 7) / 8)

abbrev pub BlockedStands : Type 0
BlockedStands = (b : Blocks) (es : List Cell) → AllByRecursion (Blockable b) es → Sound (blocked b 0 0 es) (blocks_end b 0 0 es * b.bytes)
