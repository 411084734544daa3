use Rattle.std.proofs.Common.{◌≡◌, ◌+◌, ◌*◌, ◌≤◌, length}
use Rattle.definition.proofs.Describing.{firsts}
use Rattle.definition.proofs.definition.Definition.size.Given as goal

abbrev pub invariant-loop-component : goal.invariant-loop-component
invariant-loop-component l =
    (l.size ≡ 12 + length (firsts l.self.text.now l.component-items l.component-index))
    × (l.size ≤ 12 + l.component-index * 4294967299)
