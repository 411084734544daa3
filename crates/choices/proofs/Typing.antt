-- Each number stands for a type of that number.
use Rattle.std.proofs.Common.{◌≡◌, ℕ, zero, suc, ◌+◌, List, [], ◌∷◌, slice_index_or, Some, None, Option, option_map, refl, rules, arith}
use Rattle.choices.specs.ComponentTypes.{standard_types, type_numbered, type_number}
use Rattle.choices.specs.declared.component_type.ComponentType.{ComponentType}
use Rattle.choices.specs.declared.component_type.ComponentType.TheVariants.{Other}

-- the types of a list have the numbers from k on
abbrev NumberedFrom : ℕ → List ComponentType → Type 0
NumberedFrom k [] = Unit {0}
NumberedFrom k (t ∷ ts) = (type_number t ≡ k) × NumberedFrom (suc k) ts

number_from : (k : ℕ) (ts : List ComponentType) (n : ℕ) (other : ComponentType) → NumberedFrom k ts → type_number other ≡ n + k → type_number (slice_index_or ts n other) ≡ n + k
number_from k [] n other each is = is
number_from k (t ∷ ts) zero other each is = omega (arith, each.0)
number_from k (t ∷ ts) (suc n) other each is =
    let h : type_number (slice_index_or ts n other) ≡ n + suc k = number_from (suc k) ts n other each.1 (omega (arith, is)) in
    omega (arith, h)

pub number_typed : (n : ℕ) → type_number (type_numbered n) ≡ n
number_typed n =
    let each : NumberedFrom 0 standard_types = search rules in
    let h : type_number (type_numbered n) ≡ n + 0 = number_from 0 standard_types n (Other n) each (omega arith) in
    omega (arith, h)

-- what a type that stands for a number says of the number
pub number_of_some : (o : Option ℕ) (t : ComponentType) → option_map type_numbered o ≡ Some t → o ≡ Some (type_number t)
number_of_some None t h = cc
number_of_some (Some n) t h = cc (number_typed n)

pub number_of_none : (o : Option ℕ) → option_map type_numbered o ≡ None → o ≡ None
number_of_none None h = refl
number_of_none (Some n) h = cc
