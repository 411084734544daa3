use Rattle.std.proofs.Common.{◌≡◌, ◌++◌, take, drop}
use Rattle.store.proofs.copying.copy.Given as goal

-- the bytes before this one are copied
abbrev pub invariant-loop-at : goal.invariant-loop-at
invariant-loop-at g l =
    (g.T.Source.bytes l.to ≡ take l.at (g.S.Source.bytes l.from) ++ drop l.at (g.T.Source.bytes l.initial.to))
    × (g.T.Store.kept l.to ≡ g.T.Store.kept l.initial.to)
