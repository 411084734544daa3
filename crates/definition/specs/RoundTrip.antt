-- Reading and writing are inverse to each other: a box is accepted exactly if it is the writing of something well formed.
use Rattle.std.specs.Prelude.{◌≡◌, ℕ, ◌^◌, ◌<◌, ◌≤◌, List, length, Some, None, Ok, Option, Result}
use Rattle.std.specs.List.{AllByRecursion}
use Rattle.fault.specs.declared.fault.Fault.{Fault}
use Rattle.definition.specs.Definitions.{read_definition}
use Rattle.definition.specs.Encoded.{Described, defined_by, definition_bytes}
use Rattle.definition.specs.declared.component.Component.{Component}
use Rattle.fields.specs.declared.table.Table.{Table}

-- every number fits a byte
abbrev pub Octets : List ℕ → Type 0
Octets xs = AllByRecursion (λ b. b < 256) xs

-- a type of the standard's has no URI, one of the user's own has one, with no zero byte in it
abbrev pub WellTyped : ℕ → Option (List ℕ) → Type 0
WellTyped number None = number ≤ 16
WellTyped number (Some uri) = (0x8000 ≤ number) × (number < 2 ^ 16) × AllByRecursion (λ b. (0 < b) × (b < 256)) uri

abbrev pub WellDescribed : Described → Type 0
WellDescribed d = WellTyped d.number d.uri

-- what a definition box can hold
pub record WellDefined (ds : List Described) : Type 0 where
  pub some : 1 ≤ length ds
  pub few : length ds ≤ 16
  pub each : AllByRecursion WellDescribed ds
  pub short : length (definition_bytes ds) < 2 ^ 32

-- r is what reading xs answers: accepted exactly if xs is the writing of something well formed, which is then what was read
pub record DefinitionExact (xs : List ℕ) (r : Result (Table Component) Fault) : Type 0 where
  pub written : (cs : Table Component) → r ≡ Ok cs → WellDefined (defined_by xs cs) × (definition_bytes (defined_by xs cs) ≡ xs)
  pub accepted : (ds : List Described) → WellDefined ds → definition_bytes ds ≡ xs → (cs : Table Component) × (r ≡ Ok cs) × (defined_by xs cs ≡ ds)

-- what is written: the bytes that were read, and, of anything well formed, a box that is read as the same again
pub record DefinitionBack (text : List ℕ) (cs : Table Component) : Type 0 where
  pub same : Octets text → read_definition text ≡ Ok cs → definition_bytes (defined_by text cs) ≡ text
  pub again : WellDefined (defined_by text cs) → (r : Table Component) × (read_definition (definition_bytes (defined_by text cs)) ≡ Ok r) × (defined_by (definition_bytes (defined_by text cs)) r ≡ defined_by text cs)
