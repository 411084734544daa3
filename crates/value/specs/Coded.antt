-- How values and codes answer for one another. A code is the whole number that the bits of a value spell.
use Rattle.std.specs.Prelude.{Ok, Err, Result}
use Rattle.fault.specs.Faults.{fault}
use Rattle.fault.specs.declared.fault.Fault.{Fault}
use Rattle.fault.specs.declared.layer.Layer.TheVariants.{Frame}
use Rattle.fault.specs.declared.reason.Reason.{Reason}

-- a single value has no place but 0
abbrev pub refused : {A : Type 0} → Reason → Result A Fault
refused why = Err (fault why Frame 0)

-- goes on with what came out, or passes the fault up
abbrev pub then : {A B : Type 0} → Result A Fault → (A → Result B Fault) → Result B Fault
then (Ok x) f = f x
then (Err e) f = Err e

-- x itself, unless the way there was refused
abbrev pub unless_refused : {A B : Type 0} → Result A Fault → B → Result B Fault
unless_refused way x = then way (λ _. Ok x)
