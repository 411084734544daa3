-- The components of the definition box.
use Rattle.std.specs.Prelude.{ℕ, suc, ◌+◌, cond, ◌||◌, List, [], ◌∷◌, length, take, drop, Some, None, Ok, Result, ◌==◌, nat_le, nat_lt}
use Rattle.fault.specs.Faults.{fault}
use Rattle.fault.specs.declared.fault.Fault.{Fault}
use Rattle.fault.specs.declared.layer.Layer.{Layer}
use Rattle.fault.specs.declared.layer.Layer.TheVariants.{DefinitionBox}
use Rattle.fault.specs.declared.reason.Reason.TheVariants.{Extent, Reserved}
use Rattle.fields.specs.Field.{then, check, half_at}
use Rattle.definition.specs.declared.component.Component.{Component}
use Rattle.definition.specs.declared.component.Span.{Span}
use Rattle.fields.specs.declared.item.Item.{Item}

-- that part of a text
abbrev pub part : List ℕ → Span → List ℕ
part text s = take s.len (drop s.at text)

-- how many bytes stand before the first zero byte
abbrev pub run : List ℕ → ℕ
run [] = 0
run (x ∷ xs) = cond (x == 0) 0 (suc (run xs))

-- how long the URI is that begins at `at`; a zero byte must end it
abbrev pub uri_by : Layer → List ℕ → ℕ → Result ℕ Fault
uri_by who xs at =
    then (check (nat_lt (at + run (drop at xs)) (length xs)) (fault Extent who at)) (λ _.
    Ok (run (drop at xs)))

abbrev pub uri_at : List ℕ → ℕ → Result ℕ Fault
uri_at = uri_by DefinitionBox

-- a 16-bit type, none of the reserved ones, and from 0x8000 on a URI
abbrev pub component_by : Layer → List ℕ → ℕ → Result (Item Component) Fault
component_by who xs at =
    then (half_at who xs at) (λ number.
    then (check (nat_le number 16 || nat_le 0x8000 number) (fault Reserved who at)) (λ _.
    cond (nat_lt number 0x8000)
    (Ok (record { value = record { number = number; uri = None }; next = at + 2 }))
    (then (uri_by who xs (at + 2)) (λ n.
    Ok (record { value = record { number = number; uri = Some (record { at = at + 2; len = n }) }; next = at + 2 + n + 1 })))))

abbrev pub component_at : List ℕ → ℕ → Result (Item Component) Fault
component_at = component_by DefinitionBox

abbrev pub plain : Component
plain = record { number = 0; uri = None }
