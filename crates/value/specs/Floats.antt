-- The code of a float is the whole number that its bits spell by IEEE 754. What is not a number has none.
use Rattle.std.specs.Prelude.{ℕ, Bool, cond, Ok, Result, from_bits, is_nan, to_bits, Float}
use Rattle.std.specs.Float.{Format as Width}
use Rattle.std.specs.Float.Ieee.{nan_bits}
use Rattle.fault.specs.declared.fault.Fault.{Fault}
use Rattle.fault.specs.declared.reason.Reason.TheVariants.{Code, NotANumber}
use Rattle.value.specs.Coded.{refused}

abbrev pub float_code : Width → Float → Result ℕ Fault
float_code w x = cond (is_nan x) (refused NotANumber) (Ok (to_bits w x))

-- what is made of the float that the bits spell
abbrev pub value_of_bits : {A : Type 0} → (Float → A) → Width → ℕ → Result A Fault
value_of_bits make w bits = cond (nan_bits w bits) (refused NotANumber) (Ok (make (from_bits w bits)))

-- the same of a code, which may have more bits than there is room for
abbrev pub value_of_code : {A : Type 0} → (Float → A) → (ℕ → Bool) → Width → ℕ → Result A Fault
value_of_code make room w code = cond (room code) (value_of_bits make w code) (refused Code)

abbrev pub float_of : Width → ℕ → Result Float Fault
float_of w bits = value_of_bits (λ x. x) w bits
