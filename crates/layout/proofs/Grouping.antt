-- Which entries a group has.
use Rattle.std.proofs.Common.{◌≡◌, ℕ, ◌<◌, ◌≤◌, List, [], ◌∷◌, map, length, get_or, refl, ap, sym, ◌∙◌}
use Rattle.std.proofs.ByRecursion.{All-get_or}
use Rattle.std.proofs.lemmas.List.{get_or-map}
use Rattle.std.specs.List.{AllByRecursion}
use Rattle.placement.specs.Pack.{Cell}
use Rattle.placement.specs.Line.{Packing, line_bytes}
use Rattle.placement.specs.Place.{Strip, no_strip, strip, cells, line_of}
use Rattle.plans.specs.Cells.{cell_of, slot_of, packing_of}
use Rattle.plans.specs.Entries.{no_entry}
use Rattle.plans.specs.Facts.{Facts}
use Rattle.plans.specs.Fit.{Small, Fitting}
use Rattle.plans.specs.Views.{View, alone, plan_of}
use Rattle.plans.specs.declared.entry.Entry.{Entry}
use Rattle.plans.specs.declared.packing.Packing as code
use Rattle.layout.specs.Groups.{Draws}
use Rattle.layout.specs.declared.group.Group.{Group}

-- some of the entries in a line
pub fitting : (v : View) → Facts v → (xs : List Entry) (count : ℕ) → length xs ≤ 16 → AllByRecursion (Small v.packing) xs → count ≤ 32768 → Fitting v.packing xs count
fitting v f xs count short small few =
    record { block = f.block; pixel = f.pixel; row = f.row; short = short; times = few; small = small }

-- one entry
pub one : (v : View) → Facts v → (n : ℕ) → n < length v.entries → AllByRecursion (Small v.packing) (get_or v.entries n no_entry ∷ [])
one v f n h = (All-get_or (Small v.packing) v.entries n no_entry h f.cells, tt)

pub alone-at : (v : View) (n : ℕ) → n < length v.entries → alone v (get_or v.entries n no_entry) ≡ get_or (map (alone v) v.entries) n no_strip
alone-at v n h = sym (get_or-map (alone v) v.entries n no_entry no_strip h)

-- the cells of a group
pub cells_in : (xs : List Entry) → map (λ s. s.cell) (map slot_of xs) ≡ map cell_of xs
cells_in [] = refl
cells_in (x ∷ xs) = ap (λ (ys : List Cell). cell_of x ∷ ys) (cells_in xs)

-- what follows from a line's packing, cells and count follows from the strip that it draws
pub by_strip : {Y : Type 0} (F : Packing → List Cell → ℕ → Y) (v : View) (g : Group) (n : ℕ) → Draws v g (strip (plan_of v) n)
    → F (packing_of g.line.packing.now) (map cell_of g.line.cycle.now) g.line.count ≡ F (packing_of v.packing) (cells (plan_of v) n) (strip (plan_of v) n).count
by_strip F v g n d =
    ap (λ (p : code.Packing). F (packing_of p) (map cell_of g.line.cycle.now) g.line.count) d.packing
    ∙ ap (λ (x : List Cell). F (packing_of v.packing) x g.line.count) (sym (cells_in g.line.cycle.now))
    ∙ ap (λ (s : Strip). F (packing_of v.packing) (map (λ x. x.cell) s.cycle) s.count) d.strip

pub line_is : (v : View) (g : Group) (n : ℕ) → Draws v g (strip (plan_of v) n) → line_bytes (packing_of g.line.packing.now) (map cell_of g.line.cycle.now) g.line.count ≡ line_of (plan_of v) n
line_is v g n d = by_strip line_bytes v g n d
