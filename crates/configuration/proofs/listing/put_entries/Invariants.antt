use Rattle.std.proofs.Common.{◌≡◌, take}
use Rattle.std.specs.List.{flat_map}
use Rattle.configuration.specs.Encoded.{entry_bytes}
use Rattle.fields.specs.Put.{placed}
use Rattle.configuration.proofs.listing.put_entries.Given as goal

abbrev pub invariant-loop-i : goal.invariant-loop-i
invariant-loop-i l = l.out ≡ placed l.initial.out 20 (flat_map entry_bytes (take l.i l.entries))
