-- So many bytes are there for each that was put.
use Rattle.std.proofs.Common.{◌≡◌, ◌+◌, ◌*◌, length}
use Rattle.test_boxes.proofs.bytes.configuration.Given as goal

abbrev pub invariant-loop-entry : goal.invariant-loop-entry
invariant-loop-entry l = length l.bytes.items ≡ 20 + 5 * l.entry-index
