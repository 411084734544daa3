-- In blocks, at any depths: after a repetition of the cycle only the bits of the open block matter, so the repetitions come round again.
use Rattle.std.specs.Prelude.{◌≡◌, ℕ, ◌+◌, ◌-◌, ◌*◌, ◌<◌, ◌≤◌, cond, List, [], ◌∷◌, nat_le}
use Rattle.std.specs.List.{AllByRecursion}
use Rattle.placement.specs.Pack.{Cell, Blocks}
use Rattle.placement.specs.Line.{repeated}
use Rattle.placement.specs.Steps.{block_after, held_after}

-- after r repetitions: the block, and its bits
abbrev pub block_at : Blocks → List Cell → ℕ → ℕ
block_at b cycle r = block_after b 0 0 (repeated r cycle)

abbrev pub held_at : Blocks → List Cell → ℕ → ℕ
held_at b cycle r = held_after b 0 (repeated r cycle)

pub record Turns : Type 0 where
  pub held_again : (b : Blocks) (cycle : List Cell) (i n m j : ℕ) → held_at b cycle (i + n) ≡ held_at b cycle i
      → held_at b cycle (i + m * n + j) ≡ held_at b cycle (i + j)
  pub block_again : (b : Blocks) (cycle : List Cell) (i n m j : ℕ) → held_at b cycle (i + n) ≡ held_at b cycle i
      → block_at b cycle (i + m * n + j) ≡ block_at b cycle (i + j) + m * (block_at b cycle (i + n) - block_at b cycle i)
  -- within 64 repetitions the bits of the open block have come round, and again within 65 more
  pub comes_round : (b : Blocks) (cycle : List Cell) → b.bytes ≤ 8 → AllByRecursion (λ e. e.depth ≤ 8 * b.bytes) cycle
      → (n : ℕ) × (0 < n) × (n ≤ 65) × (held_at b cycle (64 + n) ≡ held_at b cycle 64)

-- what does not go into the open block
abbrev pub rest : Blocks → ℕ → List Cell → List Cell
rest b o [] = []
rest b o (e ∷ es) = cond (nat_le (o + e.depth) (8 * b.bytes)) (rest b (o + e.depth) es) (e ∷ es)
