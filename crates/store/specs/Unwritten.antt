-- What a write leaves: all of a store but its bytes, as numbers along a tree that is shaped as the pile is.
use Rattle.std.specs.Prelude.{ℕ, List}

pub data Unwritten : Type 0 where
  nothing : Unwritten
  along : List ℕ → Unwritten → Unwritten
  both : Unwritten → Unwritten → Unwritten
