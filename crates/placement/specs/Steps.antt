-- The word of value n by what comes before it: what a loop along the line keeps.
use Rattle.std.specs.Prelude.{◌≡◌, ℕ, ◌+◌, ◌<◌, Bool, List, [], ◌∷◌, length, slice_index_or, take, drop}
use Rattle.placement.specs.Pack.{Cell, nowhere, packed, packed_word, packed_end, Blocks, block_of, held, total, block_word, blocked}

-- the block and its bits after some entries
abbrev pub block_after : Blocks → ℕ → ℕ → List Cell → ℕ
block_after b k o [] = k
block_after b k o (e ∷ es) = block_after b (block_of b k o e.depth) (held b o e.depth + e.depth) es

abbrev pub held_after : Blocks → ℕ → List Cell → ℕ
held_after b o [] = o
held_after b o (e ∷ es) = held_after b (held b o e.depth + e.depth) es

pub record Stepwise : Type 0 where
  pub packed-at : (little : Bool) (es : List Cell) (p n : ℕ) (d : Cell) → n < length es
      → slice_index_or (packed little p es) n nowhere ≡ packed_word little (packed_end p (take n es)) (slice_index_or es n d)
  pub blocked-at : (b : Blocks) (es : List Cell) (k o n : ℕ) (d : Cell) → n < length es
      → slice_index_or (blocked b k o es) n nowhere
      ≡ block_word b (block_of b (block_after b k o (take n es)) (held_after b o (take n es)) (slice_index_or es n d).depth)
      (held b (held_after b o (take n es)) (slice_index_or es n d).depth)
      (total b (held b (held_after b o (take n es)) (slice_index_or es n d).depth + (slice_index_or es n d).depth) (drop (n + 1) es))
      (slice_index_or es n d).depth
