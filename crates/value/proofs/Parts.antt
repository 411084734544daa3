-- The code of a complex number from those of its parts.
use Rattle.std.specs.Prelude.{◌≡◌, ℕ, ◌*◌, ◌%◌, ◌^◌, Ok}
use Rattle.std.proofs.Common.{arith, bit_or}
use Rattle.std.proofs.lemmas.Grind.{common_steps}
use Rattle.std.specs.Float.{binary32}
use Rattle.value.specs.Complexes.{complex_code, parts_fit}
use Rattle.value.specs.Floats.{float_code}
use Rattle.value.specs.Floating.{code_small}
use Rattle.value.specs.declared.complex.Complex.{Complex}

pub joined : (z : Complex) (re im : ℕ) → parts_fit z → Ok re ≡ float_code binary32 z.re → Ok im ≡ float_code binary32 z.im → Ok (bit_or (re * 2 ^ 32 % 2 ^ 64) im) ≡ complex_code z
joined z re im fit a b = grind (arith, common_steps, code_small binary32 z.re re, code_small binary32 z.im im)
