-- Which components each kind takes, by their format and depth.
use Rattle.std.specs.Prelude.{ℕ, Bool, cond, ◌&&◌, Ok, Result, ◌==◌, nat_le}
use Rattle.fault.specs.declared.fault.Fault.{Fault}
use Rattle.fault.specs.declared.reason.Reason.TheVariants.{Kind}
use Rattle.choices.specs.Choices.{format_number}
use Rattle.choices.specs.declared.choice.Format.{Format}
use Rattle.choices.specs.declared.choice.Format.TheVariants.{Integer, Float, Complex}
use Rattle.value.specs.Coded.{refused}

-- those of one format, at the depths that pass a test
abbrev pub components : Format → (ℕ → Bool) → Format → ℕ → Bool
components wanted depths format depth = format_number format == format_number wanted && depths depth

abbrev pub integers : Format → ℕ → Bool
integers = components Integer (λ depth. nat_le 1 depth && nat_le depth 64)

abbrev pub floats_of : ℕ → Format → ℕ → Bool
floats_of bits = components Float (λ depth. depth == bits)

abbrev pub complexes_of : ℕ → Format → ℕ → Bool
complexes_of bits = components Complex (λ depth. depth == bits)

-- by whether a kind takes the component
abbrev pub taken_or : Bool → Result (Unit {0}) Fault
taken_or taken = cond taken (Ok tt) (refused Kind)
