use Rattle.std.proofs.Common.{ap, ◌∙◌}
use Rattle.gm_ast.specs.declared.tree.Expr.{Expr}
use Rattle.gm_ast.specs.Tree.{expr_of}
use Rattle.gm_bfs.specs.Searches.{conjunction}
use Rattle.gm_bfs.proofs.readings.conjoin.Goals as goal

pub returns : goal.returns
returns c = ap expr_of c.put.ensures ∙ c.in_ok-both.ensures ∙ ap (λ (e : Expr). conjunction (expr_of c.args.first) (expr_of e)) c.taken_value-other.ensures
