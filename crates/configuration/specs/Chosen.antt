-- A choice is read by its number in a byte.
use Rattle.std.specs.Prelude.{ℕ, List, Option, Result}
use Rattle.fault.specs.Faults.{fault}
use Rattle.fault.specs.declared.fault.Fault.{Fault}
use Rattle.fault.specs.declared.layer.Layer.{Layer}
use Rattle.fault.specs.declared.layer.Layer.TheVariants.{ConfigurationBox}
use Rattle.fault.specs.declared.reason.Reason.TheVariants.{Reserved}
use Rattle.fields.specs.Field.{then, accepted, byte_at}

abbrev pub reserved_at : ℕ → Fault
reserved_at at = fault Reserved ConfigurationBox at

-- one of a closed set of choices, by its number in a byte
abbrev pub choice_by : {A : Type 0} → (ℕ → Option A) → Layer → List ℕ → ℕ → Result A Fault
choice_by choose who xs at = then (byte_at who xs at) (λ n. accepted (choose n) (fault Reserved who at))

abbrev pub choice_at : {A : Type 0} → (ℕ → Option A) → List ℕ → ℕ → Result A Fault
choice_at choose = choice_by choose ConfigurationBox
