use Rattle.std.proofs.Common.{◌≡◌, ◌<◌, List, get_or, sym, ap, ◌∙◌, subst, arith}
use Rattle.placement.specs.Word.{Word, Whole}
use Rattle.placement.specs.Place.{depth_of, word_of}
use Rattle.placement.proofs.Words.{words_stand}
use Rattle.layout.specs.Layouts.{shown}
use Rattle.layout.specs.Words.{word_in}
use Rattle.layout.specs.declared.layout.Layout.{Layout}
use Rattle.plans.specs.Entries.{no_entry}
use Rattle.plans.specs.Views.{plan_of}
use Rattle.plans.specs.declared.entry.Entry.{Entry}
use Rattle.layout.proofs.Located.{found, valid, deep, sound}
use Rattle.layout.proofs.layout.Layout.locate.Goals as goal
use Rattle.layout.proofs.layout.Layout.locate.Goals.{After-word}

-- the word of the place that was asked for
word : (c : After-word) → word_in c.word.result ≡ word_of (plan_of (shown c.args.self.now)) c.args.place
word c =
    let f = c.in_ok-found.ensures.finds in
    c.word.ensures.is ∙ ap (λ (l : Layout). word_of (plan_of (shown l)) c.in_ok-found.found.place) f.layout ∙ ap (word_of (plan_of (shown c.args.self.now))) f.place

pub bit_place-number-requires : goal.bit_place-number-requires
bit_place-number-requires c =
    let v = shown c.args.self.now in
    let p = c.args.place in
    let n = c.in_ok-found.found.position in
    let facts = c.args.self.now.frame.facts in
    let f = found v p n (sym c.in_ok-found.ensures.position) in
    let ok = valid v facts p n f in
    let s = sound v facts in
    let w = word (goal.at.bit_place-number-requires c).After-word in
    let b : c.args.bit < depth_of (plan_of v) p.index =
    omega (arith, c.if-bit-listed.false, ap (λ (es : List Entry). (get_or es n no_entry).depth.0) c.listed.ensures, deep v facts p n f) in
    let d : c.args.bit < (word_of (plan_of v) p).depth = omega (arith, b, s.deep p ok) in
    record {
      whole = subst Whole (sym w) (s.whole p ok);
      inside = omega (arith, d, ap (λ (w : Word). w.depth) w);
      low = omega (
        arith,
        ap (λ (w : Word). w.first) w,
        ((words_stand (word_of (plan_of v) p) (s.whole p ok)).1 c.args.bit d).0,
        s.within p c.args.bit ok b,
        c.args.self.now.sized,
        c.args.self.now.short,
      );
      small = c.word.ensures.small;
    }
