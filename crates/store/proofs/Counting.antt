-- Counts that the length cuts, and a copy byte by byte.
use Rattle.std.proofs.Common.{◌≡◌, ℕ, ◌+◌, ◌<◌, min, List, [], ◌∷◌, ◌++◌, length, get_or, take, drop, set, sym, ap, ◌∙◌, append_assoc, arith, length-drop, length-take}
use Rattle.std.proofs.lemmas.List.{same_lists, get_or-take, get_or-drop, take_more, drop_more, set_at, length-take-le}
use Rattle.store.specs.Copies.{copied_bytes}

pub take-cut : (k n : ℕ) (xs : List ℕ) → k ≡ min (length xs) n → take k xs ≡ take n xs
take-cut k n xs e =
    same_lists (take k xs) (take n xs) (simp length-take (omega arith)) (λ i d h.
    let a : i < k = omega (arith, length-take k xs) in
    let b : i < n = omega (arith, length-take k xs) in
    get_or-take k xs i d a ∙ sym (get_or-take n xs i d b))

pub drop-cut : (k n : ℕ) (xs : List ℕ) → k ≡ min (length xs) n → drop k xs ≡ drop n xs
drop-cut k n xs e =
    same_lists (drop k xs) (drop n xs) (simp length-drop (omega arith)) (λ i d h.
    let a : k + i ≡ n + i = omega (arith, length-drop k xs) in
    get_or-drop k xs i d ∙ ap (λ m. get_or xs m d) a ∙ sym (get_or-drop n xs i d))

module _ (from to : List ℕ) (i : ℕ) where
  -- one byte more
  pub copy_turn : (old new : List ℕ) (v : ℕ) → i < length from → i < length to → old ≡ take i from ++ drop i to → v ≡ get_or from i 0 → new ≡ set old i v
      → new ≡ take (i + 1) from ++ drop (i + 1) to
  copy_turn old new v h k e b f =
      let more = drop_more to i 0 k in
      let put = set_at (take i from) (get_or to i 0) (drop (i + 1) to) (get_or from i 0) i (length-take-le i from (omega arith)) in
      let next = take_more from i 0 h in
      let group = append_assoc (take i from) (get_or from i 0 ∷ []) (drop (i + 1) to) in
      cc

  pub copy_end : i ≡ min (length from) (length to) → take i from ++ drop i to ≡ copied_bytes from to
  copy_end e =
      ap (λ l. l ++ drop i to) (take-cut i (length to) from e)
      ∙ ap (λ l. take (length to) from ++ l) (drop-cut i (length from) to (omega arith))
