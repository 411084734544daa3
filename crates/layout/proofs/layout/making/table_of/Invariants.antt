use Rattle.std.proofs.Common.{◌≡◌, map, length, take}
use Rattle.boxes.specs.Pairs.{type_of}
use Rattle.plans.specs.Entries.{entry_for}
use Rattle.layout.proofs.layout.making.table_of.Given as goal

abbrev pub invariant-loop-i : goal.invariant-loop-i
invariant-loop-i l =
    (length l.table ≡ 16) × (take l.i l.table ≡ map (entry_for (type_of l.boxes) l.sampling l.sides.width l.sides.height) (take l.i l.entries))
