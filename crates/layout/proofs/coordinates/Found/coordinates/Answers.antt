use Rattle.std.proofs.Common.{ℕ, ◌+◌, ◌*◌, ◌/◌, ◌<◌, ◌≤◌, sym, subst, mul-le-mul, arith}
use Rattle.std.proofs.lemmas.Nat.{div_below}
use Rattle.placement.specs.Place.{strip}
use Rattle.placement.proofs.Places.{wide_pos, high_pos}
use Rattle.layout.specs.Groups.{Draws}
use Rattle.layout.specs.Layouts.{shown}
use Rattle.plans.specs.Views.{plan_of}
use Rattle.layout.proofs.Placing.{wide_is, rows_is}
use Rattle.layout.proofs.coordinates.Found.coordinates.Goals as goal

-- the row of tiles, and the tile in it
tile_small : (r h n x w m : ℕ) → 0 < h → 0 < w → r < n * h → x < m * w → n ≤ 32768 → m ≤ 32768 → r / h * m + x / w < 2147483648
tile_small r h n x w m a b c d e f =
    let q : r / h ≤ 32768 = omega (arith, div_below r h n a c) in
    omega (arith, div_below x w m b d, mul-le-mul q f)

pub overflow_add-result : goal.overflow_add-result
overflow_add-result c =
    let v = shown c.args.self.now.layout.now in
    let g = subst (λ (n : ℕ). Draws v c.group-group.result (strip (plan_of v) n)) c.number-number.ensures c.group-group.ensures in
    let w = wide_is v c.args.self.now.place c.group-group.result g c.often-often.result c.often-often.ensures.is in
    let h = rows_is v c.args.self.now.place c.group-group.result g in
    record {
      fits = omega (
        arith,
        tile_small c.args.self.now.place.row c.group-group.result.rows v.tile_rows c.args.self.now.place.column (c.group-group.result.line.count * c.often-often.result) v.tile_columns
            (omega (arith, h, high_pos (plan_of v) c.args.self.now.place c.args.self.now.valid)) (omega (arith, w, wide_pos (plan_of v) c.args.self.now.place c.args.self.now.valid))
            (subst (λ (x : ℕ). c.args.self.now.place.row < v.tile_rows * x) (sym h) c.args.self.now.valid.row) (subst (λ (x : ℕ). c.args.self.now.place.column < v.tile_columns * x) (sym w) c.args.self.now.valid.column)
            c.args.self.now.layout.now.frame.facts.down.1 c.args.self.now.layout.now.frame.facts.across.1,
      );
    }
