use Rattle.std.proofs.Common.{◌≡◌, ℕ, min, List, length, take, drop, ap, ◌∙◌, arith}
use Rattle.store.specs.Ends.{most_bytes}
use Rattle.store.proofs.Turning.{turned, split_after, split_before}
use Rattle.store.proofs.rings.ring.Goals as goal

pub returns : goal.returns
returns c =
    let buffer : List ℕ = c.args.buffer.now in
    let start : ℕ = c.args.start in
    let r = c.new-3.result in
    let split = c.split_at_mut-before in
    let mid : c.min.result ≡ min (length buffer) start = omega arith in
    let first : r.first.buffer.now ≡ drop start buffer =
    ap (λ m. m.buffer.now) c.new-3.ensures.0 ∙ c.new.ensures.value
    ∙ split_after start c.min.result buffer split.result.0.now split.result.1.now split.ensures.value split.ensures.front_len mid in
    let second : r.second.buffer.now ≡ take start buffer =
    ap (λ m. m.buffer.now) c.new-3.ensures.1 ∙ c.new-2.ensures.value
    ∙ split_before start c.min.result buffer split.result.0.now split.result.1.now split.ensures.value split.ensures.front_len mid in
    record { first = first; second = second; bytes = turned most_bytes start buffer r.first.buffer.now r.second.buffer.now first second }
