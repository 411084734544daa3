use Rattle.std.proofs.Common.{◌≡◌, ◌+◌, length}
use Rattle.fields.specs.Put.{placed}
use Rattle.definition.proofs.Describing.{firsts}
use Rattle.definition.proofs.definition.put_components.Given as goal

abbrev pub invariant-loop-component : goal.invariant-loop-component
invariant-loop-component l =
    (l.at ≡ 12 + length (firsts l.text l.components l.component-index))
    × (l.out ≡ placed l.initial.out 12 (firsts l.text l.components l.component-index))
