-- What a read and a write answer, within the length and past it.
use Rattle.std.proofs.Common.{◌≡◌, ℕ, zero, suc, ◌<◌, ◌≤◌, List, [], ◌∷◌, length, get_or, take, set, Ok, Err, sym, refl, ap, ◌∙◌, arith}
use Rattle.std.proofs.lemmas.Bool.Decides.{nat_tests}
use Rattle.fault.specs.declared.fault.Fault.{Fault}
use Rattle.store.specs.Access.{outside, read_answer, write_answer}

module _ (bs : List ℕ) (at : ℕ) where
  pub read_within : at < length bs → Ok (get_or bs at 0) ≡ read_answer bs at
  read_within h = grind (arith, nat_tests)

  pub read_past : length bs ≤ at → Err (outside at) ≡ read_answer bs at
  read_past h = grind (arith, nat_tests)

  -- by a refusal that is known to name the place
  pub read_refused : {f : Fault} → f ≡ outside at → length bs ≤ at → Err f ≡ read_answer bs at
  read_refused e h = ap (λ f. Err f) e ∙ read_past h

  pub write_within : at < length bs → Ok tt ≡ write_answer bs at
  write_within h = grind (arith, nat_tests)

  pub write_past : length bs ≤ at → Err (outside at) ≡ write_answer bs at
  write_past h = grind (arith, nat_tests)

  pub write_refused : {f : Fault} → f ≡ outside at → length bs ≤ at → Err f ≡ write_answer bs at
  write_refused e h = ap (λ f. Err f) e ∙ write_past h

-- two calls, each within its list
module _ (xs ys : List ℕ) (i j : ℕ) (h : i < length xs) (k : j < length ys) where
  pub same_read : get_or xs i 0 ≡ get_or ys j 0 → read_answer xs i ≡ read_answer ys j
  same_read e = sym (read_within xs i h) ∙ ap (λ b. Ok b) e ∙ read_within ys j k

  pub same_write : write_answer xs i ≡ write_answer ys j
  same_write = sym (write_within xs i h) ∙ write_within ys j k

pub take_of_set : (n : ℕ) (bs : List ℕ) (i v : ℕ) → take n (set bs i v) ≡ set (take n bs) i v
take_of_set zero bs i v = refl
take_of_set (suc n) [] i v = refl
take_of_set (suc n) (x ∷ xs) zero v = refl
take_of_set (suc n) (x ∷ xs) (suc i) v = ap (λ l. x ∷ l) (take_of_set n xs i v)
