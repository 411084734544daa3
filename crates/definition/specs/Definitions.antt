-- The definition box.
use Rattle.std.specs.Prelude.{ℕ, cond, List, length, Some, None, Ok, Option, Result, nat_lt, slice_index_or}
use Rattle.std.specs.Option as option
use Rattle.std.specs.Result.{result_map_both}
use Rattle.fault.specs.declared.fault.Fault.{Fault}
use Rattle.fault.specs.declared.layer.Layer.TheVariants.{DefinitionBox}
use Rattle.definition.specs.Components.{part, plain, component_at}
use Rattle.fields.specs.Field.{then}
use Rattle.fields.specs.Header.{header_of, end_at}
use Rattle.fields.specs.Items.{items, list_at}
use Rattle.fields.specs.declared.table.Table.{Table}
use Rattle.definition.specs.declared.component.Component.{Component}
use Rattle.definition.specs.declared.definition.Definition.{Definition}
use Rattle.definition.specs.declared.definition.Uri.{Uri}

-- the type word cmpd
abbrev pub cmpd : ℕ
cmpd = 0x636d_7064

abbrev pub read_definition : List ℕ → Result (Table Component) Fault
read_definition xs =
    then (header_of DefinitionBox cmpd xs) (λ _.
    then (list_at plain component_at DefinitionBox xs 8) (λ components.
    then (end_at DefinitionBox (length xs) components.next) (λ _.
    Ok components.value)))

abbrev pub components_read : Result Definition Fault → Result (Table Component) Fault
components_read = result_map_both (λ d. d.components) (λ f. f)

-- the components that are defined, in their order
abbrev pub defined : Table Component → List Component
defined = items

-- a URI as it is handed out: where it begins in the box, and its bytes
abbrev pub seen : Uri → ℕ × List ℕ
seen u = (u.place, u.text.now)

abbrev pub uri_of : List ℕ → Table Component → ℕ → Option (ℕ × List ℕ)
uri_of text cs i = option.option_map (λ s. (s.at, part text s)) (slice_index_or (defined cs) i plain).uri

-- the type of a component, by its position
abbrev pub component_type : Table Component → ℕ → Option ℕ
component_type cs i = cond (nat_lt i (length (defined cs))) (Some (slice_index_or (defined cs) i plain).number) None
