-- Both boxes of one lane.
use Rattle.std.specs.Prelude.{ℕ, List, [], Some, None, Ok, Option, Result}
use Rattle.std.specs.Option as option
use Rattle.std.specs.Result as result
use Rattle.fault.specs.declared.fault.Fault.{Fault}
use Rattle.configuration.specs.Configurations.{read_configuration}
use Rattle.definition.specs.Definitions.{read_definition, component_type}
use Rattle.definition.specs.Encoded.{definition_bytes, defines}
use Rattle.fields.specs.Field.{then}
use Rattle.configuration.specs.Profiles.{profile_type}
use Rattle.fields.specs.declared.table.Table.{Table}
use Rattle.boxes.specs.declared.boxes.Boxes.{Boxes}
use Rattle.configuration.specs.declared.configuration.Configuration.{Configuration}
use Rattle.configuration.specs.declared.configuration.Configuration.TheVariants.{Listed, Brief}
use Rattle.definition.specs.declared.component.Component.{Component}
use Rattle.definition.specs.declared.definition.Definition.{Definition}

-- what was read of both boxes
pub record Pair : Type 0 where
  pub definition : Option (Table Component)
  pub configuration : Configuration

-- a definition box that is absent defines nothing
abbrev pub maybe_definition : Option (List ℕ) → Result (Option (Table Component)) Fault
maybe_definition None = Ok None
maybe_definition (Some xs) = then (read_definition xs) (λ cs. Ok (Some cs))

-- the definition box is read first
abbrev pub read_boxes : Option (List ℕ) → List ℕ → Result Pair Fault
read_boxes definition configuration =
    then (maybe_definition definition) (λ cs.
    then (read_configuration configuration) (λ c.
    Ok (record { definition = cs; configuration = c })))

abbrev pub components_in : Option Definition → Option (Table Component)
components_in = option.option_map (λ d. d.components)

abbrev pub definition_read : Result (Option Definition) Fault → Result (Option (Table Component)) Fault
definition_read = result.result_map_both components_in (λ f. f)

abbrev pub boxes_read : Result Boxes Fault → Result Pair Fault
boxes_read = result.result_map_both (λ b. record { definition = components_in b.definition; configuration = b.configuration }) (λ f. f)

-- the text that the URIs lie in: the definition box, where there is one
abbrev pub texts : Option Definition → Option (List ℕ)
texts = option.option_map (λ d. d.text.now)

-- the bytes of a definition box that may be absent
abbrev pub maybe_bytes : Option Definition → List ℕ
maybe_bytes None = []
maybe_bytes (Some d) = definition_bytes (defines d)

abbrev pub defined_type : Option Definition → ℕ → Option ℕ
defined_type None index = None
defined_type (Some d) index = component_type d.components index

-- the type of the component with this index: in version 1 the profile defines it
abbrev pub configured_type : Configuration → Option Definition → ℕ → Option ℕ
configured_type (Brief p) definition index = profile_type p index
configured_type (Listed l) definition index = defined_type definition index

abbrev pub type_of : Boxes → ℕ → Option ℕ
type_of b index = configured_type b.configuration b.definition index
