-- So many bytes are there for each that was put.
use Rattle.std.proofs.Common.{◌≡◌, ◌+◌, ◌*◌, length}
use Rattle.test_boxes.proofs.bytes.definition.Given as goal

abbrev pub invariant-loop-number : goal.invariant-loop-number
invariant-loop-number l = length l.bytes.items ≡ 12 + 2 * l.number-index
