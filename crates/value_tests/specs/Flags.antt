-- A flag in one bit: 1 where it is set, and 0 where it is not.
use Rattle.std.specs.Prelude.{ℕ, Bool, true, false, cond, Ok, Result, ◌==◌}
use Rattle.fault.specs.declared.fault.Fault.{Fault}
use Rattle.fault.specs.declared.reason.Reason.TheVariants.{Code}
use Rattle.choices.specs.declared.choice.Format.{Format}
use Rattle.choices.specs.declared.choice.Format.TheVariants.{Integer}
use Rattle.value.specs.Coded.{refused}
use Rattle.value.specs.Components.{components}

abbrev pub one_bit : Format → ℕ → Bool
one_bit = components Integer (λ depth. depth == 1)

-- nothing more is to be known of a flag
abbrev pub always : Bool → Type 0
always flag = Unit {0}

abbrev pub flag_code : Bool → Result ℕ Fault
flag_code flag = Ok (cond flag 1 0)

abbrev pub flag_of : ℕ → Result Bool Fault
flag_of code = cond (code == 0) (Ok false) (cond (code == 1) (Ok true) (refused Code))
