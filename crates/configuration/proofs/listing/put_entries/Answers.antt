use Rattle.std.proofs.Common.{◌+◌, ◌*◌, get_or, take, ap, ◌∙◌, arith}
use Rattle.std.proofs.lemmas.List.{length-take-le, take_all}
use Rattle.std.specs.List.{flat_map}
use Rattle.configuration.specs.Encoded.{entry_bytes}
use Rattle.configuration.specs.Entries.{blank}
use Rattle.fields.specs.Put.{placed}
use Rattle.configuration.proofs.Entering.{length_entries, entries_more}
use Rattle.fields.proofs.Placing.{then-placed}
use Rattle.configuration.proofs.listing.put_entries.Goals as goal

pub loop-i-preserved : goal.loop-i-preserved
loop-i-preserved c =
    let o = c.args.out.now in
    let es = c.args.entries.now in
    let i = c.loop-i.i in
    let n = length_entries (take i es) in
    let m = length-take-le i es (omega arith) in
    then-placed o (flat_map entry_bytes (take i es)) (entry_bytes (get_or es i blank)) 20 (20 + 5 * i) c.loop-i.invariant c.put.ensures (omega arith) (omega arith)
    ∙ ap (placed o 20) (entries_more es i (omega arith))

pub returns : goal.returns
returns c = c.loop-i.invariant ∙ ap (λ z. placed c.args.out.now 20 (flat_map entry_bytes z)) (take_all c.loop-i.i c.args.entries.now (omega arith))
