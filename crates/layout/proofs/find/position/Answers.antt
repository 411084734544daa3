use Rattle.std.proofs.Common.{eqb, ◌∙◌, rules, tests}
use Rattle.std.proofs.lemmas.Iterator.{YieldsList-from_slice}
use Rattle.std.proofs.lemmas.Iterator.Search.{position_from_yields_List}
use Rattle.layout.proofs.Finding.{position_is}
use Rattle.layout.proofs.find.position.Goals as goal

pub returns : goal.returns
returns c =
    position_from_yields_List (λ e. eqb e.index c.args.index) _ _ c.position.result c.position.ensures.ran (YieldsList-from_slice c.args.entries.now c.iter.ensures.rest)
    (λ x b q k. search (rules, tests))
    ∙ position_is c.args.index c.args.entries.now
