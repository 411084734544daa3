use Rattle.std.proofs.Common.{◌≡◌, ℕ, ◌+◌, ◌*◌, ◌^◌, ◌≤◌, length, ap, ◌∙◌, mul-le-mul, arith}
use Rattle.placement.specs.Grid.{by_tile, summed, line, tile_of}
use Rattle.placement.specs.Place.{grid}
use Rattle.layout.specs.Parts.{view_of}
use Rattle.layout.specs.declared.frame.Frame.{Frame}
use Rattle.plans.specs.Views.{plan_of, strips_by}
use Rattle.layout.proofs.Starting.{tiles_below, groups_below, three}
use Rattle.layout.proofs.starts.LineAt.start_by_tile.Goals as goal
use Rattle.layout.proofs.starts.LineAt.start_by_tile.Goals.{After-line-line}

-- the bytes of all tiles of a group
abbrev tiles_in : Frame → ℕ → ℕ
tiles_in f h = (grid (plan_of (view_of f.parts))).tiles * tile_of by_tile (grid (plan_of (view_of f.parts))) h

module _ (c : After-line-line) where
  abbrev f : Frame
  f = c.args.self.now.layout.now.frame

  before_is : c.tiles-before.result ≡ summed (tiles_in f) c.args.self.now.group
  before_is =
      c.tiles-before.ensures ∙ ap (λ (x : Frame). summed (tiles_in x) c.earlier.result.count) (c.earlier.ensures.frame ∙ c.group-group.ensures.frame)
      ∙ ap (summed (tiles_in f)) (c.earlier.ensures.count ∙ c.group-group.ensures.number)

  each_is : c.tile_alone-each.result.0 ≡ tile_of by_tile (grid (plan_of (view_of f.parts))) c.args.self.now.group
  each_is =
      c.tile_alone-each.ensures.is ∙ ap (λ (x : Frame). tile_of by_tile (grid (plan_of (view_of x.parts))) c.group-group.result.number) c.group-group.ensures.frame
      ∙ ap (tile_of by_tile (grid (plan_of (view_of f.parts)))) c.group-group.ensures.number

  line_is : c.line-line.result.0 ≡ line (grid (plan_of (view_of f.parts))) c.args.self.now.group
  line_is =
      c.line-line.ensures.is ∙ ap (λ (x : Frame). line (grid (plan_of (view_of x.parts))) c.group-group.result.number) c.group-group.ensures.frame
      ∙ ap (line (grid (plan_of (view_of f.parts)))) c.group-group.ensures.number

  -- the tiles of the groups before, and those of this group
  both : c.tiles-before.result + tiles_in f c.args.self.now.group ≤ 4294967295
  both =
      omega (
        arith,
        before_is,
        groups_below (tiles_in f) c.args.self.now.group (length (strips_by f.parts.interleave (view_of f.parts))) c.args.self.now.inside.group c.requires,
      )

  -- the tiles before, in this group
  tiles : c.args.self.now.tile * c.tile_alone-each.result.0 ≤ 4294967295
  tiles = tiles_below c.args.self.now.tile _ c.tile_alone-each.result.0 _ c.args.self.now.inside.tile each_is (omega (arith, both))

  rows : c.args.self.now.row * c.line-line.result.0 ≤ 32768 * 2 ^ 33
  rows = mul-le-mul c.args.self.now.inside.low c.line-line.ensures.near

pub overflow_cast-result : goal.overflow_cast-result
overflow_cast-result c = record { fits = omega (arith, both (goal.at.overflow_cast-result c).After-line-line) }

pub overflow_mul-result : goal.overflow_mul-result
overflow_mul-result c = record { fits = omega (arith, tiles (goal.at.overflow_mul-result c).After-line-line) }

pub overflow_add-result : goal.overflow_add-result
overflow_add-result c =
    let l = (goal.at.overflow_add-result c).After-line-line in
    record { fits = omega (arith, tiles l, rows l) }

pub overflow_add-result-2 : goal.overflow_add-result-2
overflow_add-result-2 c =
    let l = (goal.at.overflow_add-result-2 c).After-line-line in
    record { fits = omega (arith, both l, tiles l, rows l) }

pub returns : goal.returns
returns c =
    let l = (goal.at.returns c).After-line-line in
    record {
      is = three (λ (a b d : ℕ). a + (c.args.self.now.tile * b + c.args.self.now.row * d)) (before_is l) (each_is l) (line_is l);
      near = omega (arith, both l, tiles l, rows l);
    }
