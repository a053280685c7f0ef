use Rattle.std.proofs.Common.{ap, ◌∙◌}
use Rattle.gm_ast.specs.declared.tree.Expr.{Expr}
use Rattle.gm_ast.specs.Tree.{expr_of, stmt_of}
use Rattle.gm_bfs.specs.Searches.{at_node, conjunction}
use Rattle.gm_bfs.proofs.InPlaceTrees.{loop-of}
use Rattle.gm_bfs.proofs.searches.visits.Goals as goal

pub returns : goal.returns
returns c = loop-of _ _ _ _ _ _ _ _ c.over_nodes.ensures
    (c.in_ok-filter.ensures ∙ ap (λ (e : Expr). conjunction (at_node c.args.around.site c.args.around.iterator c.args.around.fresh.active) (expr_of e)) c.taken_value.ensures)
    (ap stmt_of (c.in_ok-body.ensures.ok ∙ c.taken.ensures) ∙ c.in_ok-by_levels.ensures)
