use Rattle.std.proofs.Common.{◌+◌, ◌-◌, length, arith}
use Rattle.fields.proofs.Placing.{placed_from, placed-put}
use Rattle.fields.proofs.writing.put.Goals as goal

pub returns-then-bytes-out : goal.returns-then-bytes-out
returns-then-bytes-out c =
    let o = c.args.out.now in
    let b = c.args.bytes.now in
    let at = c.args.at in
    placed-put o b at (placed_from o b _ at (at + length b - at) c.copy_from_slice.ensures.after (omega arith)) (omega arith)
