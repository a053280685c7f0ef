use Rattle.std.proofs.Common.{Bool, List, ap, sym, ◌∙◌}
use Rattle.gm_bfs.specs.Copies.{is_marked}
use Rattle.gm_bfs.proofs.Tables.{has-inside, has-outside}
use Rattle.gm_bfs.proofs.marked.Marks.has.Goals as goal

pub returns-then-variable-self : goal.returns-then-variable-self
returns-then-variable-self c =
    c.contains.ensures
    ∙ sym (has-inside c.self.inside.variables c.self.inside.count c.args.variable c.if-variable-self.true)
    ∙ ap (λ (marks : List Bool). is_marked marks c.args.variable) c.self.view_is

pub returns-else-variable-self : goal.returns-else-variable-self
returns-else-variable-self c =
    has-outside c.self.inside.variables c.self.inside.count c.args.variable c.if-variable-self.false
    ∙ ap (λ (marks : List Bool). is_marked marks c.args.variable) c.self.view_is
