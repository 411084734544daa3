use Rattle.std.proofs.Common.{◌≡◌, ◌*◌, ◌≤◌, map, take}
use Rattle.placement.specs.Pack.{packed_end}
use Rattle.rules.specs.Packing.{cell_of}
use Rattle.rules.proofs.packing.bits_after.Given as goal

abbrev pub invariant-loop-entry : goal.invariant-loop-entry
invariant-loop-entry l =
    (l.free ≡ packed_end 0 (map cell_of (take l.entry-index l.entry-items))) × (l.free ≤ 2047 * l.entry-index)
