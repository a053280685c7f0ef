use Rattle.std.proofs.Common.{ap, ◌∙◌}
use Rattle.gm_ast.specs.Tree.{expr_of}
use Rattle.gm_bfs.specs.Searches.{conjunction}
use Rattle.gm_bfs.proofs.InPlaceTrees.{if-ok}
use Rattle.gm_bfs.proofs.searches.where_active.Goals as goal

pub returns : goal.returns
returns c = if-ok c.conjunction.result c.conjunction.ensures (λ r made. made ∙ ap (λ a. conjunction a (expr_of c.args.filter)) c.at_node-active.ensures)
