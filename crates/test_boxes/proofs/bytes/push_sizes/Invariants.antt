-- So many bytes are there for each that was put.
use Rattle.std.proofs.Common.{◌≡◌, ◌+◌, ◌*◌, length}
use Rattle.test_boxes.proofs.bytes.push_sizes.Given as goal

abbrev pub invariant-loop-size : goal.invariant-loop-size
invariant-loop-size l = length l.bytes.items ≡ length l.initial.bytes.items + 4 * l.size-index
