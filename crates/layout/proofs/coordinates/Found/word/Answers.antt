use Rattle.std.proofs.Common.{◌≡◌, ℕ, ◌<◌, List, map, length, sym, ap, ◌∙◌, subst, arith}
use Rattle.std.proofs.lemmas.List.{length-map}
use Rattle.placement.specs.Grid.{start}
use Rattle.placement.specs.Line.{Packing, line_word, moved}
use Rattle.placement.specs.Pack.{Cell}
use Rattle.placement.specs.Place.{Slot, Strip, cells, grid, home, strip, turn_at, slot_at, tile_at, line_at}
use Rattle.placement.proofs.Places.{tile_below, line_below, turn_below, entry_below}
use Rattle.plans.specs.Cells.{cell_of, packing_of}
use Rattle.plans.specs.Views.{plan_of}
use Rattle.layout.specs.Layouts.{shown}
use Rattle.layout.specs.Words.{word_in}
use Rattle.layout.proofs.Grouping.{cells_in, by_strip}
use Rattle.layout.proofs.Placing.{by_cycle, rows_is}
use Rattle.layout.proofs.coordinates.Found.word.Goals as goal

pub word-requires : goal.word-requires
word-requires c =
    let f = c.args.self.now in
    let v = shown f.layout.now in
    let s = c.coordinates-at.ensures in
    let g = c.coordinates-at.result.group in
    record {
      turn = omega (arith, s.turn, turn_below (plan_of v) f.place f.valid, ap (λ (x : Strip). x.count) s.group.strip);
      slot = omega (
        arith,
        s.slot,
        entry_below (plan_of v) f.place f.valid,
        by_cycle v f.place g s.group (λ (ss : List Slot). length (map (λ x. x.cell) ss)),
        length-map g.line.cycle.now cell_of,
        ap length (cells_in g.line.cycle.now),
      );
    }

pub invariant_of-line : goal.invariant_of-line
invariant_of-line c =
    let f = c.args.self.now in
    let v = shown f.layout.now in
    let at = c.coordinates-at.result in
    let s = c.coordinates-at.ensures in
    let row = line_below (plan_of v) f.place f.valid in
    record {
      inside =
          record {
            tile = omega (arith, s.tile, tile_below (plan_of v) f.place f.valid);
            group = omega (arith, s.number, f.valid.stored);
            row = subst (λ (n : ℕ). at.row < (strip (plan_of v) n).rows) (sym s.number) (omega (arith, s.row, row));
            low = omega (arith, s.row, row, rows_is v f.place at.group s.group, at.group.few);
          };
    }

pub returns-clause-is : goal.returns-clause-is
returns-clause-is c =
    let p = c.args.self.now.place in
    let v = shown c.args.self.now.layout.now in
    let h = home (plan_of v) p.index in
    let at = c.coordinates-at.result in
    let s = c.coordinates-at.ensures in
    let w = line_word (packing_of v.packing) (cells (plan_of v) h) (strip (plan_of v) h).count in
    let word : word_in c.word.result ≡ w (turn_at (plan_of v) p) (slot_at (plan_of v) p) =
    c.word.ensures.is ∙ by_strip (λ (q : Packing) (cs : List Cell) (n : ℕ). line_word q cs n at.seat.turn at.seat.slot) v at.group h s.group
    ∙ ap (λ (x : ℕ). w x at.seat.slot) s.turn ∙ ap (w (turn_at (plan_of v) p)) s.slot in
    let begins : c.start.result.0 ≡ start (grid (plan_of v)) (tile_at (plan_of v) p) h (line_at (plan_of v) p) =
    c.start.ensures.is ∙ ap (λ (x : ℕ). start (grid (plan_of v)) x at.number at.row) s.tile
    ∙ ap (λ (x : ℕ). start (grid (plan_of v)) (tile_at (plan_of v) p) x at.row) s.number
    ∙ ap (start (grid (plan_of v)) (tile_at (plan_of v) p) h) s.row in
    c.moved.ensures ∙ ap (moved c.start.result.0) word ∙ ap (λ (x : ℕ). moved x (w (turn_at (plan_of v) p) (slot_at (plan_of v) p))) begins
