-- How a broken rule is answered.
use Rattle.std.specs.Prelude.{ℕ, Bool, List, [], ◌∷◌, ◌++◌, length, Ok, Result}
use Rattle.fault.specs.Faults.{fault}
use Rattle.fault.specs.declared.fault.Fault.{Fault}
use Rattle.fault.specs.declared.layer.Layer.TheVariants.{Configuration}
use Rattle.fault.specs.declared.reason.Reason.{Reason}
use Rattle.fields.specs.Field.{then, check}
use Rattle.configuration.specs.declared.entry.Entry.{Entry}

-- by the whole configuration
abbrev pub broken : Reason → Fault
broken why = fault why Configuration 255

-- by the entry at a position of the list
abbrev pub broken_at : Reason → ℕ → Fault
broken_at why i = fault why Configuration i

-- each entry keeps the rule, which may look at those listed earlier; the first that does not is answered
abbrev pub each_keeps : (List Entry → Entry → Bool) → Reason → List Entry → List Entry → Result (Unit {0}) Fault
each_keeps keeps why earlier [] = Ok tt
each_keeps keeps why earlier (e ∷ es) =
    then (check (keeps earlier e) (broken_at why (length earlier))) (λ _.
    each_keeps keeps why (earlier ++ e ∷ []) es)
