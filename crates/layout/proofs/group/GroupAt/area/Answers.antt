use Rattle.std.proofs.Common.{ℕ, ◌*◌, ap, ◌∙◌}
use Rattle.placement.specs.Place.{Strip, strip}
use Rattle.layout.specs.Parts.{view_of}
use Rattle.plans.specs.Views.{plan_of}
use Rattle.layout.proofs.Grouping.{line_is}
use Rattle.layout.proofs.group.GroupAt.area.Goals as goal

pub returns-clause-is : goal.returns-clause-is
returns-clause-is c =
    let v = view_of c.args.self.now.frame.now.parts in
    let rows = ap (λ (s : Strip). s.rows) c.group-group.ensures.strip in
    ap (λ (x : ℕ). x * c.bytes.result.0) rows ∙ ap (λ (x : ℕ). (strip (plan_of v) c.args.self.now.number).rows * x) (c.bytes.ensures.is ∙ line_is v c.group-group.result c.args.self.now.number c.group-group.ensures)
