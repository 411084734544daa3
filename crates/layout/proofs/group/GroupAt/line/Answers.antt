use Rattle.std.proofs.Common.{◌∙◌}
use Rattle.layout.specs.Parts.{view_of}
use Rattle.layout.proofs.Grouping.{line_is}
use Rattle.layout.proofs.group.GroupAt.line.Goals as goal

pub returns-clause-is : goal.returns-clause-is
returns-clause-is c =
    c.bytes.ensures.is ∙ line_is (view_of c.args.self.now.frame.now.parts) c.group.result c.args.self.now.number c.group.ensures
