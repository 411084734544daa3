use Rattle.std.proofs.Common.{◌≡◌, ℕ, min, List, length, take, drop, ap, ◌∙◌, arith}
use Rattle.store.specs.Ends.{most_bytes}
use Rattle.store.proofs.Counting.{take-cut, drop-cut}
use Rattle.store.proofs.Turning.{turned}
use Rattle.store.proofs.rings.held_ring.Goals as goal

pub returns : goal.returns
returns c =
    let bytes : List ℕ = c.args.bytes.now in
    let r = c.new-3.result in
    let mid : c.min.result ≡ min (length bytes) c.args.start = omega arith in
    let first : r.first.bytes.now ≡ drop c.args.start bytes =
    ap (λ h. h.bytes.now) c.new-3.ensures.0 ∙ c.new.ensures ∙ c.split_at.ensures.back ∙ drop-cut c.min.result c.args.start bytes mid in
    let second : r.second.bytes.now ≡ take c.args.start bytes =
    ap (λ h. h.bytes.now) c.new-3.ensures.1 ∙ c.new-2.ensures ∙ c.split_at.ensures.front ∙ take-cut c.min.result c.args.start bytes mid in
    record { first = first; second = second; bytes = turned most_bytes c.args.start bytes r.first.bytes.now r.second.bytes.now first second }
