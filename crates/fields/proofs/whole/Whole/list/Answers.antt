use Rattle.std.proofs.Common.{◌≡◌, ◌+◌, ◌-◌, Ok, take, sym, ap, subst, ◌∙◌, arith}
use Rattle.fields.specs.Field.{then}
use Rattle.fields.specs.Items.{items_from, tabled}
use Rattle.fields.proofs.Chains.{then_go}
use Rattle.fields.proofs.Tables.{Onward, Sofar, sofar_more, turn-goes, finished}
use Rattle.fields.proofs.whole.Whole.list.Goals as goal

pub loop-preserved : goal.loop-preserved
loop-preserved g c =
    let blank = g.T.Element.BLANK in
    let read = g.T.Element.element_at c.args.self.reader.layer in
    let xs = c.args.self.reader.bytes.now in
    let n = c.in_ok-count.count in
    let i = c.loop.counter in
    let t = c.loop.value in
    let item = c.in_ok-item.item in
    let so = c.loop.invariant.0 in
    let few = c.in_ok-count.ensures.few in
    let goes = turn-goes blank read xs n i c.loop.next t item (omega arith) (omega arith) so (sym c.read.ensures ∙ c.in_ok-item.was) in (
      subst (Sofar blank (i + 1)) (sym c.push.ensures) (sofar_more blank i t item.value (omega arith) so),
      ap (λ t. Onward blank n (take (i + 1) t.slots) (items_from read (n - (i + 1)) xs item.next)) c.push.ensures ∙ sym goes ∙ c.loop.invariant.1,
    )

pub returns : goal.returns
returns g c =
    let blank = g.T.Element.BLANK in
    let read = g.T.Element.element_at c.args.self.reader.layer in
    let xs = c.args.self.reader.bytes.now in
    let n = c.in_ok-count.count in
    let few = c.in_ok-count.ensures.few in
    let last : c.loop.counter ≡ n = omega arith in
    let end = subst (λ i. Onward blank n (take i c.loop.value.slots) (items_from read (n - i) xs c.loop.next) ≡ then (items_from read n xs (c.args.at + 4)) (λ es. Ok (tabled blank n es))) last c.loop.invariant.1 in
    let done = finished blank read xs n c.loop.next c.loop.value (omega arith) (subst (λ i. Sofar blank i c.loop.value) last c.loop.invariant.0) in
    sym (then_go (λ n. then (items_from read n xs (c.args.at + 4)) (λ es. Ok (tabled blank n es))) (sym c.count.ensures.is ∙ c.in_ok-count.was) (sym end ∙ done))
