-- Floats and their codes: the two ways there and back, for either width.
use Rattle.std.specs.Prelude.{◌≡◌, ℕ, ◌*◌, ◌<◌, Bool, true, false, cond, not, T, Ok, Err, Result, refl, Float}
use Rattle.std.specs.Result.{is_ok, result_unwrap_or}
use Rattle.std.proofs.Common.{sym, ap, subst, arith}
use Rattle.std.specs.Float.{Format as Width}
use Rattle.std.specs.Float.Ieee.{fits, top}
use Rattle.std.specs.Float.Ieee.Bits.{of_bits-to_bits, to_bits-of_bits, to_bits-lt, nan_bits_is}
use Rattle.fault.specs.declared.fault.Fault.{Fault}
use Rattle.value.specs.Floats.{float_code, float_of}

-- a refusal has no value
pub not_ok : {A B : Type 0} (e : Fault) (y : A) → ◌≡◌ {A = Result A Fault} (Err e) (Ok y) → B
not_ok e y h = absurd (subst (λ r. T (is_ok r)) (sym h) tt)

pub ok_same : {A : Type 0} (x y : A) → ◌≡◌ {A = Result A Fault} (Ok x) (Ok y) → x ≡ y
ok_same x y h = ap (λ r. result_unwrap_or r x) h

-- what was tested, where the answer is not a refusal
pub cond_ok : {A : Type 0} (b : Bool) (e : Fault) (x y : A) → cond b (Err e) (Ok x) ≡ Ok y → (b ≡ false) × (x ≡ y)
cond_ok true e x y h = not_ok e y h
cond_ok false e x y h = (refl, ok_same x y h)

pub no_nan : (b : Bool) → b ≡ false → T (not b)
no_nan b e = subst (λ (k : Bool). T (not k)) (sym e) tt

module _ (w : Width) where
  pub code_small : (x : Float) (n : ℕ) → T (fits w x) → float_code w x ≡ Ok n → n < 2 * top w
  code_small x n f h = grind (arith, to_bits-lt w x f)

  pub back : (x : Float) (n : ℕ) → T (fits w x) → float_code w x ≡ Ok n → float_of w n ≡ Ok x
  back x n f h = grind (arith, of_bits-to_bits w x f, nan_bits_is)

  pub again : (n : ℕ) (x : Float) → n < 2 * top w → float_of w n ≡ Ok x → float_code w x ≡ Ok n
  again n x s h = grind (arith, to_bits-of_bits w n s, nan_bits_is w n)
