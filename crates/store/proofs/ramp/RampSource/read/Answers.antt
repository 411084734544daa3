use Rattle.std.proofs.Common.{◌≡◌, ℕ, ◌%◌, min, length, get_or, Ok, sym, ap, ◌∙◌, arith}
use Rattle.std.proofs.lemmas.List.FromFn.{length-map-range_with_len, get_or-map-range_with_len}
use Rattle.store.specs.Ends.{most_bytes, ramp_bytes}
use Rattle.store.proofs.Answering.{read_within}
use Rattle.store.proofs.ramp.RampSource.read.Goals as goal

pub returns-then-at-len : goal.returns-then-at-len
unfolding ramp_bytes
returns-then-at-len c =
    let n : ℕ = min most_bytes c.args.self.now.count in
    let at : ℕ = c.args.at in
    let h : length (ramp_bytes c.args.self.now.count) ≡ n = length-map-range_with_len (λ i. i % 251) 0 n in
    let e : get_or (ramp_bytes c.args.self.now.count) at 0 ≡ at % 251 = get_or-map-range_with_len (λ i. i % 251) 0 n at at 0 (omega arith) (omega arith) in
    ap (λ b. Ok b) (sym e) ∙ read_within (ramp_bytes c.args.self.now.count) at (omega arith)
