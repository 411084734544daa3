use Rattle.std.proofs.Common.{◌≡◌, arith, rules}
use Rattle.fields.specs.Put.{put_at}
use Rattle.fields.proofs.Placing.{put-placed}
use Rattle.configuration.specs.Encoded.{entry_bytes}
use Rattle.configuration.proofs.entry.Entry.put.Goals as goal

pub returns : goal.returns
returns c =
    let o = c.args.out.now in
    let bytes = entry_bytes c.args.self.now in
    let e : c.put.new.out ≡ put_at o c.args.at bytes = search rules in
    put-placed o bytes c.args.at e (omega arith)
