-- The bytes before the first zero byte.
use Rattle.std.proofs.Common.{◌≡◌, ℕ, ◌+◌, ◌≤◌, Bool, true, false, cond, eqb, ltb, List, length, drop, Some, None, Ok, ok_or, position, sym, refl, ap, ◌∙◌, arith}
use Rattle.std.proofs.lemmas.Bool.Decides.{nat_tests}
use Rattle.std.proofs.lemmas.List.{length-drop}
use Rattle.std.proofs.lemmas.List.Recursion.{is_position_or_len}
use Rattle.std.specs.List.{position_or_len}
use Rattle.fault.specs.declared.fault.Fault.{Fault}
use Rattle.definition.specs.Components.{run}
use Rattle.fields.specs.Field.{then, check}

-- where the first zero byte is, and that there is one
pub run_found : (xs : List ℕ) (at : ℕ) (f : Fault) → at ≤ length xs → ok_or (position (λ b. eqb b 0) (drop at xs)) f ≡ then (check (ltb (at + run (drop at xs)) (length xs)) f) (λ _. Ok (run (drop at xs)))
run_found xs at f h =
    let ys = drop at xs in
    let is : run ys ≡ position_or_len (λ b. eqb b 0) ys = is_position_or_len run (λ b. eqb b 0) refl (λ y zs. ap (cond (eqb y 0) 0) (omega arith)) ys in
    let l = length-drop at xs in
    let test : ltb (run ys) (length ys) ≡ ltb (at + run ys) (length xs) = grind (arith, nat_tests) in
    ap (λ r. ok_or (cond (ltb r (length ys)) (Some r) None) f) (sym is) ∙ go (run ys) (ltb (run ys) (length ys)) ∙ ap (λ t. then (check t f) (λ _. Ok (run ys))) test
  where
    go : (r : ℕ) (t : Bool) → ok_or (cond t (Some r) None) f ≡ then (check t f) (λ _. Ok r)
    go r true = refl
    go r false = refl
