use Rattle.std.proofs.Common.{◌≡◌, ◌+◌, ◌-◌, Ok, take}
use Rattle.fields.specs.Field.{then}
use Rattle.fields.specs.Items.{items_from, tabled}
use Rattle.fields.proofs.Tables.{Onward, Sofar}
use Rattle.fields.proofs.whole.Whole.list.Given as goal

abbrev pub invariant-loop : goal.invariant-loop
invariant-loop g l =
    let blank = g.T.Element.BLANK in
    let read = g.T.Element.element_at l.self.reader.layer in
    let xs = l.self.reader.bytes.now in
    Sofar blank l.counter l.value
    × (Onward blank l.count (take l.counter l.value.slots) (items_from read (l.count - l.counter) xs l.next)
    ≡ then (items_from read l.count xs (l.at + 4)) (λ es. Ok (tabled blank l.count es)))
