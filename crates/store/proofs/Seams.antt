-- Joins, over any limit.
use Rattle.std.proofs.Common.{◌≡◌, ℕ, ◌+◌, ◌-◌, ◌<◌, ◌≤◌, min, List, [], ◌∷◌, ◌++◌, length, take, drop, set, refl, arith, length-append, length-set, length-take}
use Rattle.std.proofs.lemmas.List.{get_or-take, get_or_append_left, get_or-append_right, set-append_left, set-append_right, drop-set-lt}
use Rattle.store.specs.Access.{read_answer, write_answer}
use Rattle.store.specs.Unwritten.{Unwritten, along, both}
use Rattle.store.proofs.Answering.{same_read, same_write, take_of_set}

module _ (limit : ℕ) (xs ys : List ℕ) where
  pub length_join : length (take limit (xs ++ ys)) ≡ min limit (length xs + length ys)
  length_join = simp (length-take, length-append)

  -- a byte of the first
  module _ (at : ℕ) (h : at < length xs) (l : at < limit) where
    pub read_first : read_answer xs at ≡ read_answer (take limit (xs ++ ys)) at
    read_first = same_read xs (take limit (xs ++ ys)) at at h (omega (arith, length_join)) (rw (get_or-take, get_or_append_left))

    pub write-first : write_answer xs at ≡ write_answer (take limit (xs ++ ys)) at
    write-first = same_write xs (take limit (xs ++ ys)) at at h (omega (arith, length_join))

    pub set_first : (v : ℕ) → take limit (set xs at v ++ ys) ≡ set (take limit (xs ++ ys)) at v
    set_first v = rw (← set-append_left xs ys at v h) (take_of_set limit (xs ++ ys) at v)

    pub kept-first : (v : ℕ) (new : List ℕ) (a a' b : Unwritten) → new ≡ set xs at v → a' ≡ a
        → along (length new ∷ []) (along (drop limit (new ++ ys)) (both a' b)) ≡ along (length xs ∷ []) (along (drop limit (xs ++ ys)) (both a b))
    kept-first v new a a' b e f =
        let n : length (set xs at v) ≡ length xs = length-set xs at v in
        let s : set (xs ++ ys) at v ≡ set xs at v ++ ys = set-append_left xs ys at v h in
        let d : drop limit (set (xs ++ ys) at v) ≡ drop limit (xs ++ ys) = drop-set-lt limit (xs ++ ys) at v l in
        cc

  -- a byte of the second
  module _ (at : ℕ) (h : length xs ≤ at) (k : at < length (take limit (xs ++ ys))) where
    pub read-second : read_answer ys (at - length xs) ≡ read_answer (take limit (xs ++ ys)) at
    read-second =
        let l : at < limit = omega (arith, length_join) in
        same_read ys (take limit (xs ++ ys)) (at - length xs) at (omega (arith, length_join)) k (rw (get_or-take, get_or-append_right xs ys (length xs) at 0 refl h))

    pub write-second : write_answer ys (at - length xs) ≡ write_answer (take limit (xs ++ ys)) at
    write-second = same_write ys (take limit (xs ++ ys)) (at - length xs) at (omega (arith, length_join)) k

    pub set-second : (v : ℕ) → take limit (xs ++ set ys (at - length xs) v) ≡ set (take limit (xs ++ ys)) at v
    set-second v = rw (← set-append_right xs ys (length xs) at v refl h) (take_of_set limit (xs ++ ys) at v)

    pub kept_second : (v : ℕ) (new : List ℕ) (a b b' : Unwritten) → new ≡ set ys (at - length xs) v → b' ≡ b
        → along (length xs ∷ []) (along (drop limit (xs ++ new)) (both a b')) ≡ along (length xs ∷ []) (along (drop limit (xs ++ ys)) (both a b))
    kept_second v new a b b' e f =
        let s : set (xs ++ ys) at v ≡ xs ++ set ys (at - length xs) v = set-append_right xs ys (length xs) at v refl h in
        let d : drop limit (set (xs ++ ys) at v) ≡ drop limit (xs ++ ys) = drop-set-lt limit (xs ++ ys) at v (omega (arith, length_join)) in
        cc
