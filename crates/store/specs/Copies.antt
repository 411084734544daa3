-- What a copy leaves.
use Rattle.std.specs.Prelude.{ℕ, List, ◌++◌, length, take, drop}

-- as many bytes as both have are those of the first
abbrev pub copied_bytes : List ℕ → List ℕ → List ℕ
copied_bytes from to = take (length to) from ++ drop (length from) to
