use Rattle.std.proofs.Common.{◌*◌, ◌≤◌, mul-le-mul, arith}
use Rattle.layout.proofs.Starting.{tiles_below}
use Rattle.layout.proofs.starts.LineAt.start_by_group.Goals as goal
use Rattle.layout.proofs.starts.LineAt.start_by_group.Goals.{After-line-line}

-- the tiles before
tiles : (c : After-line-line) → c.args.self.now.tile * c.tile_by_group-each.result.0 ≤ 4294967295
tiles c = tiles_below c.args.self.now.tile _ c.tile_by_group-each.result.0 _ c.args.self.now.inside.tile c.tile_by_group-each.ensures.is c.requires

pub overflow_add-result-2 : goal.overflow_add-result-2
overflow_add-result-2 c =
    record {
      fits = omega (
        arith,
        tiles (goal.at.overflow_add-result-2 c).After-line-line,
        mul-le-mul c.args.self.now.inside.low c.line-line.ensures.near,
        c.areas-before.ensures.near,
      );
    }

pub returns-clause-near : goal.returns-clause-near
returns-clause-near c =
    omega (
      arith,
      tiles (goal.at.returns-clause-near c).After-line-line,
      mul-le-mul c.args.self.now.inside.low c.line-line.ensures.near,
      c.areas-before.ensures.near,
    )
