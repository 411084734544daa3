-- The bytes of a definition box.
use Rattle.std.specs.Prelude.{ℕ, List, [], ◌∷◌, ◌++◌, map, length, Some, None, Option}
use Rattle.std.specs.List.{flat_map}
use Rattle.std.specs.Option.{option_map}
use Rattle.definition.specs.Components.{part}
use Rattle.definition.specs.Definitions.{cmpd, defined}
use Rattle.fields.specs.Put.{half_bytes, word_bytes, boxed}
use Rattle.definition.specs.declared.component.Component.{Component}
use Rattle.fields.specs.declared.table.Table.{Table}
use Rattle.definition.specs.declared.definition.Definition.{Definition}

-- a component as a reader of the box sees it: the type's number, and the URI's text where there is one
pub record Described : Type 0 where
  pub number : ℕ
  pub uri : Option (List ℕ)

abbrev pub described : List ℕ → Component → Described
described text c = record { number = c.number; uri = option_map (part text) c.uri }

-- what a definition defines, its URIs lying in `text`
abbrev pub defined_by : List ℕ → Table Component → List Described
defined_by text cs = map (described text) (defined cs)

abbrev pub defines : Definition → List Described
defines d = defined_by d.text.now d.components

-- a zero byte ends a URI
abbrev pub uri_bytes : Option (List ℕ) → List ℕ
uri_bytes None = []
uri_bytes (Some u) = u ++ 0 ∷ []

abbrev pub described_bytes : Described → List ℕ
described_bytes d = half_bytes d.number ++ uri_bytes d.uri

abbrev pub definition_bytes : List Described → List ℕ
definition_bytes ds = boxed cmpd (word_bytes (length ds) ++ flat_map described_bytes ds)
