use Rattle.std.proofs.Common.{eqb, ◌∙◌, rules, tests}
use Rattle.std.proofs.lemmas.Iterator.{YieldsList-from_slice}
use Rattle.std.proofs.lemmas.Iterator.Consumers.{YieldsList-from_filter, count_from_yields_List}
use Rattle.layout.proofs.Finding.{count_is}
use Rattle.layout.proofs.find.occurrences.Goals as goal

pub returns : goal.returns
returns c =
    count_from_yields_List c.filter.result c.count.result c.count.ensures.ran
    (YieldsList-from_filter _ (λ e. eqb e.index c.args.index) (YieldsList-from_slice c.args.cycle.now cc) c.filter.ensures.closure (λ x b q k. search (rules, tests)))
    ∙ count_is c.args.index c.args.cycle.now
