use Rattle.gm_parse.specs.Grammar.{rule}
use Rattle.gm_parse.specs.Factored.{factored}
use Rattle.gm_parse.specs.Trees.{ReadsStmt}
use Rattle.gm_parse.proofs.Paths.{at_exit, goes_absent, goes_first, goes_present, goes_then, sees}
use Rattle.gm_parse.proofs.TreeLaws.{as_stmt}
use Rattle.gm_parse.proofs.statements.returning.Goals as goal
use Rattle.gm_ast.proofs.SurfaceTrees.{stmt_of-Return}

pub returns-in_err-place-clause-goes : goal.returns-in_err-place-clause-goes
unfolding rule factored
returns-in_err-place-clause-goes c = at_exit c.from_residual.result c.from_residual.ensures.1 (goes_first c.in_err-place.ensures.goes)

pub returns-in_err-empty-clause-goes : goal.returns-in_err-empty-clause-goes
unfolding rule factored
returns-in_err-empty-clause-goes c = at_exit c.from_residual-in_err-empty.result c.from_residual-in_err-empty.ensures.1 (goes_then c.in_ok-place.ensures.goes (goes_then (goes_absent (sees c.next_is_expression.ensures c.if-not-next_is_expression.true)) (c.in_err-empty.ensures.goes)))

pub returns-then-not-next_is_expression-clause-goes : goal.returns-then-not-next_is_expression-clause-goes
unfolding rule factored
returns-then-not-next_is_expression-clause-goes c = goes_then c.in_ok-place.ensures.goes (goes_then (goes_absent (sees c.next_is_expression.ensures c.if-not-next_is_expression.true)) (c.in_ok-empty.ensures.goes))

pub returns-in_err-value-clause-goes : goal.returns-in_err-value-clause-goes
unfolding rule factored
returns-in_err-value-clause-goes c = at_exit c.from_residual-in_err-value.result c.from_residual-in_err-value.ensures.1 (goes_then c.in_ok-place.ensures.goes (goes_first (goes_present (sees c.next_is_expression.ensures c.if-not-next_is_expression.false) c.in_err-value.ensures.goes)))

pub returns-in_err-last-clause-goes : goal.returns-in_err-last-clause-goes
unfolding rule factored
returns-in_err-last-clause-goes c = at_exit c.from_residual-in_err-last.result c.from_residual-in_err-last.ensures.1 (goes_then c.in_ok-place.ensures.goes (goes_then (goes_present (sees c.next_is_expression.ensures c.if-not-next_is_expression.false) c.in_ok-value.ensures.goes) (c.in_err-last.ensures.goes)))

pub returns-clause-goes : goal.returns-clause-goes
unfolding rule factored
returns-clause-goes c = goes_then c.in_ok-place.ensures.goes (goes_then (goes_present (sees c.next_is_expression.ensures c.if-not-next_is_expression.false) c.in_ok-value.ensures.goes) (c.in_ok-last.ensures.goes))

pub returns-then-not-next_is_expression-clause-tree : goal.returns-then-not-next_is_expression-clause-tree
unfolding rule factored
returns-then-not-next_is_expression-clause-tree c = as_stmt (stmt_of-Return _ _) (ReadsStmt.return_nothing c.in_ok-place.ensures.tree c.in_ok-empty.ensures.tree)

pub returns-clause-tree : goal.returns-clause-tree
unfolding rule factored
returns-clause-tree c = as_stmt (stmt_of-Return _ _) (ReadsStmt.return_value c.in_ok-place.ensures.tree c.in_ok-value.ensures.tree c.in_ok-last.ensures.tree)
