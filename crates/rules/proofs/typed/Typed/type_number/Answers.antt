use Rattle.std.proofs.Common.{◌≡◌, Some, option_map, sym, ap, ◌∙◌}
use Rattle.boxes.specs.Pairs.{type_of, configured_type}
use Rattle.choices.specs.ComponentTypes.{type_numbered}
use Rattle.configuration.specs.Profiles.{profile_type}
use Rattle.choices.proofs.Typing.{number_of_some}
use Rattle.rules.proofs.typed.Typed.type_number.Goals as goal

pub returns-in_ok-component_type-in-Brief : goal.returns-in_ok-component_type-in-Brief
returns-in_ok-component_type-in-Brief c =
    let b = c.args.self.now.boxes.now in
    let o = type_of b c.args.index in
    let found = c.in_ok-component_type-in-Brief.field-0 in
    let same : o ≡ profile_type c.in-Brief.profile c.args.index = ap (λ k. configured_type k b.definition c.args.index) c.in-Brief.is in
    let h : option_map type_numbered o ≡ Some found = ap (option_map type_numbered) same ∙ sym c.in_ok-component_type-in-Brief.ensures in
    rw (number_of_some o found h) (cc c.from.ensures)
