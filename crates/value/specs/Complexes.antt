-- The code of a complex number has the bits of the real part above those of the imaginary part.
use Rattle.std.specs.Prelude.{ℕ, ◌+◌, ◌*◌, ◌/◌, ◌%◌, ◌^◌, T, Ok, Result}
use Rattle.std.specs.Float.{binary32}
use Rattle.std.specs.Float.Ieee.{fits}
use Rattle.fault.specs.declared.fault.Fault.{Fault}
use Rattle.value.specs.Coded.{then}
use Rattle.value.specs.Floats.{float_code, float_of}
use Rattle.value.specs.declared.complex.Complex.{Complex}

abbrev pub half : ℕ
half = 2 ^ 32

abbrev pub complex_code : Complex → Result ℕ Fault
complex_code z = then (float_code binary32 z.re) (λ re. then (float_code binary32 z.im) (λ im. Ok (re * half + im)))

abbrev pub complex_of : ℕ → Result Complex Fault
complex_of code =
    then (float_of binary32 (code / half)) (λ x. then (float_of binary32 (code % half)) (λ y. Ok (record { re = x; im = y })))

abbrev pub parts_fit : Complex → Type 0
parts_fit z = T (fits binary32 z.re) × T (fits binary32 z.im)
