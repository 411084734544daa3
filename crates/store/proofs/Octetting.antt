-- Parts of bytes and bytes put together are bytes.
use Rattle.std.proofs.Common.{ℕ, zero, suc, ◌+◌, ◌%◌, List, [], ◌∷◌, ◌++◌, map, take, drop, arith, lit<}
use Rattle.std.specs.List.{range_with_len}
use Rattle.store.specs.Access.{Octets}

pub octets_take : (n : ℕ) (bs : List ℕ) → Octets bs → Octets (take n bs)
octets_take zero bs h at = lit< tt
octets_take (suc n) [] h at = lit< tt
octets_take (suc n) (x ∷ xs) h zero = h zero
octets_take (suc n) (x ∷ xs) h (suc at) = octets_take n xs (λ j. h (suc j)) at

pub octets_drop : (n : ℕ) (bs : List ℕ) → Octets bs → Octets (drop n bs)
octets_drop zero bs h at = h at
octets_drop (suc n) [] h at = lit< tt
octets_drop (suc n) (x ∷ xs) h at = octets_drop n xs (λ j. h (suc j)) at

pub octets_append : (xs ys : List ℕ) → Octets xs → Octets ys → Octets (xs ++ ys)
octets_append [] ys h k at = k at
octets_append (x ∷ xs) ys h k zero = h zero
octets_append (x ∷ xs) ys h k (suc at) = octets_append xs ys (λ j. h (suc j)) k at

pub octets_ramp : (a n : ℕ) → Octets (map (λ at. at % 251) (range_with_len a n))
octets_ramp a zero at = lit< tt
octets_ramp a (suc n) zero = omega arith
octets_ramp a (suc n) (suc at) = octets_ramp (a + 1) n at
