use Rattle.std.proofs.Common.{eqb, length, refl, ◌∙◌, arith, rules, tests}
use Rattle.std.proofs.lemmas.Iterator.{YieldsList-from_slice}
use Rattle.std.proofs.lemmas.Iterator.Consumers.{YieldsList-from_filter, YieldsList-from_enumerate, nth_from_yields_List}
use Rattle.layout.proofs.Finding.{nth_is, number_of}
use Rattle.layout.proofs.find.occurrence.Goals as goal

pub returns : goal.returns
returns c =
    let e = nth_from_yields_List c.nth.result _ c.args.k c.nth.ensures.ran
    (YieldsList-from_filter _ (λ p. eqb p.1.index c.args.index) (YieldsList-from_enumerate (YieldsList-from_slice c.args.cycle.now cc) cc) c.filter.ensures.closure (λ x b q k. search (rules, tests))) in
    number_of _ c.nth.result _ (length c.args.cycle.now) _ c.map_or.result (λ x. refl) e (nth_is c.args.index c.args.cycle.now 0 c.args.k c.requires) (search rules) ∙ omega arith
