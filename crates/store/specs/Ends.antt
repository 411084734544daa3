-- The bytes of each end.
use Rattle.std.specs.Prelude.{ℕ, ◌%◌, min, List, ◌++◌, map, take, drop}
use Rattle.std.specs.List.{range_with_len}

-- no source is longer than this
abbrev pub most_bytes : ℕ
most_bytes = 4294967295

abbrev pub cut : List ℕ → List ℕ
cut bytes = take most_bytes bytes

-- what no source reaches
abbrev pub past_limit : List ℕ → List ℕ
past_limit bytes = drop most_bytes bytes

unfoldable pub ramp_bytes : ℕ → List ℕ
ramp_bytes count = map (λ at. at % 251) (range_with_len 0 (min most_bytes count))

-- from the start on, as many as are asked for or as there are
abbrev pub window_bytes : ℕ → ℕ → List ℕ → List ℕ
window_bytes start count bytes = take count (drop start bytes)

abbrev pub join_bytes : List ℕ → List ℕ → List ℕ
join_bytes first second = cut (first ++ second)

-- the last bytes of the buffer, and then the first
abbrev pub ring_bytes : ℕ → List ℕ → List ℕ
ring_bytes start buffer = cut (drop start buffer ++ take start buffer)
