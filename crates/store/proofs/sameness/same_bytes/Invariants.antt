use Rattle.std.proofs.Common.{◌≡◌, take}
use Rattle.store.proofs.sameness.same_bytes.Given as goal

-- the bytes before this one are the same
abbrev pub invariant-loop-at : goal.invariant-loop-at
invariant-loop-at g l = take l.at (g.S.Source.bytes l.one) ≡ take l.at (g.T.Source.bytes l.other)
