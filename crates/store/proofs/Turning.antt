-- Rings: the two parts of a buffer, turned.
use Rattle.std.proofs.Common.{◌≡◌, ℕ, zero, suc, ◌≤◌, min, List, [], ◌∷◌, ◌++◌, length, take, drop, sym, refl, ap, ◌∙◌, arith}
use Rattle.std.proofs.lemmas.List.{take-take, take_at, drop_at}
use Rattle.store.proofs.Counting.{take-cut, drop-cut}

-- cut parts, joined and cut, are the parts joined and cut
take_parts : (n m : ℕ) (xs ys : List ℕ) → n ≤ m → take n (take n xs ++ take m ys) ≡ take n (xs ++ ys)
take_parts zero m xs ys h = refl
take_parts (suc n) m [] ys h = take-take (suc n) m ys h
take_parts (suc n) m (x ∷ xs) ys h = ap (λ l. x ∷ l) (take_parts n m xs ys (omega arith))

pub turned : (limit start : ℕ) (buffer first second : List ℕ) → first ≡ drop start buffer → second ≡ take start buffer
    → take limit (take limit first ++ take limit second) ≡ take limit (drop start buffer ++ take start buffer)
turned limit start buffer first second e f =
    take_parts limit limit first second (omega arith) ∙ ap (λ l. take limit (l ++ second)) e ∙ ap (λ l. take limit (drop start buffer ++ l)) f

-- the parts of a buffer that is split at a start, or at its end where the start lies past it
module _ (start mid : ℕ) (buffer before after : List ℕ) (e : buffer ≡ before ++ after) (n : length before ≡ mid) (m : mid ≡ min (length buffer) start) where
  pub split_after : after ≡ drop start buffer
  split_after = sym (drop_at before after mid n) ∙ ap (drop mid) (sym e) ∙ drop-cut mid start buffer m

  pub split_before : before ≡ take start buffer
  split_before = sym (take_at before after mid n) ∙ ap (take mid) (sym e) ∙ take-cut mid start buffer m
