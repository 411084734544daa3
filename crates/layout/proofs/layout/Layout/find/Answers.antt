use Rattle.std.proofs.Common.{List, length, get_or, sym, ap, ◌∙◌, arith}
use Rattle.layout.specs.Layouts.{shown}
use Rattle.plans.specs.Entries.{no_entry, position_with}
use Rattle.plans.specs.declared.entry.Entry.{Entry}
use Rattle.layout.proofs.Finding.{first}
use Rattle.layout.proofs.Located.{valid}
use Rattle.layout.proofs.layout.Layout.find.Goals as goal

pub bounds-entries-position : goal.bounds-entries-position
bounds-entries-position c = (first c.args.place.index c.listed-entries.result.now c.in-Some.position (sym c.in-Some.ensures)).below

pub offset_bounds-entries-position : goal.offset_bounds-entries-position
offset_bounds-entries-position c =
    record {
      fits = omega (
        arith,
        (first c.args.place.index c.listed-entries.result.now c.in-Some.position (sym c.in-Some.ensures)).below,
        ap length c.listed-entries.ensures,
        c.args.self.now.frame.facts.few,
      );
    }

pub invariant_of-result : goal.invariant_of-result
invariant_of-result c =
    let n = c.in-Some.position in
    let f = ap (position_with c.args.place.index) (sym c.listed-entries.ensures) ∙ sym c.in-Some.ensures in
    record {
      first = f;
      valid = valid (shown c.args.self.now) c.args.self.now.frame.facts c.args.place n
          (record {
            first = f;
            column = omega (arith, c.if-place-entry.false, ap (λ (es : List Entry). (get_or es n no_entry).columns) c.listed-entries.ensures);
            row = omega (arith, c.if-place-entry-2.false, ap (λ (es : List Entry). (get_or es n no_entry).rows) c.listed-entries.ensures);
          });
    }
