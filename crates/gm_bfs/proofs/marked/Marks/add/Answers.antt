use Rattle.std.proofs.Common.{ap, ◌∙◌}
use Rattle.gm_bfs.specs.Copies.{mark}
use Rattle.gm_bfs.proofs.Tables.{marked-more}
use Rattle.gm_bfs.proofs.marked.Marks.add.Goals as goal

pub returns : goal.returns
returns c =
    marked-more c.self.inside.variables c.insert.new.self c.args.variable c.self.inside.count c.in_ok-insert.ensures.updates
    ∙ ap (mark c.args.variable) c.self.view_is
