use Rattle.std.proofs.Common.{sym, ◌∙◌, arith}
use Rattle.rules.proofs.Keeping.{goes_on}
use Rattle.rules.proofs.entries.each_keeps.Goals as goal

pub loop-i-preserved : goal.loop-i-preserved
loop-i-preserved g c rule acts =
    sym (goes_on rule c.args.reason c.args.entries.now c.loop-i.i (omega arith) (sym (acts _ _ _ c.keeps.ensures) ∙ c.if-not-keeps.false))
    ∙ c.loop-i.invariant rule acts
