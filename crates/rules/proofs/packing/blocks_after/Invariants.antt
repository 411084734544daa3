use Rattle.std.proofs.Common.{◌≡◌, ◌^◌, ◌≤◌, map, drop}
use Rattle.placement.specs.Pack.{blocks_end}
use Rattle.rules.specs.Packing.{cell_of, sized}
use Rattle.rules.proofs.packing.blocks_after.Given as goal

abbrev pub invariant-loop-entry : goal.invariant-loop-entry
invariant-loop-entry l =
    let b = sized l.listing.packing.block in
    (blocks_end b l.closed l.held (map cell_of (drop l.entry-index l.entry-items)) ≡ blocks_end b 0 0 (map cell_of l.entry-items))
    × (l.closed ≤ l.entry-index) × (l.held ≤ 2 ^ 16)
