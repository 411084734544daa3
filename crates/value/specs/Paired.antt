-- Complex numbers and their codes, from what holds of each part.
use Rattle.std.specs.Prelude.{◌≡◌, ℕ, ◌/◌, ◌%◌, ◌^◌, ◌<◌, Ok}
use Rattle.std.proofs.Common.{arith}
use Rattle.std.proofs.lemmas.Nat.{div-mul-add, mod-mul-add, div-add-mod'}
use Rattle.std.specs.Float.{binary32}
use Rattle.value.specs.Complexes.{half, complex_code, complex_of, parts_fit}
use Rattle.value.specs.declared.complex.Complex.{Complex}
use Rattle.value.specs.Floating as floating

pub back : (z : Complex) (n : ℕ) → parts_fit z → complex_code z ≡ Ok n → complex_of n ≡ Ok z
back z n fit h =
    grind (arith, div-mul-add, mod-mul-add, floating.code_small binary32 z.im, floating.back binary32 z.re, floating.back binary32 z.im)

pub again : (n : ℕ) (z : Complex) → n < 2 ^ 64 → complex_of n ≡ Ok z → complex_code z ≡ Ok n
again n z small h =
    grind (arith, div-add-mod' n half, floating.again binary32 (n / half), floating.again binary32 (n % half))
