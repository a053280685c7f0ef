use Rattle.gm_parse.specs.Grammar.{rule}
use Rattle.gm_parse.specs.Factored.{factored}
use Rattle.gm_parse.specs.Trees.{ReadsTree}
use Rattle.gm_parse.proofs.Paths.{at_exit, goes_absent, goes_first, goes_present, goes_then, sees_then}
use Rattle.gm_parse.proofs.TreeLaws.{as_tree}
use Rattle.gm_parse.proofs.expressions.member.Goals as goal
use Rattle.gm_ast.proofs.SurfaceTrees.{expr_of-Named, expr_of-Member, expr_of-Method}

pub returns-in_err-owner-clause-goes : goal.returns-in_err-owner-clause-goes
unfolding rule factored
returns-in_err-owner-clause-goes c = at_exit c.from_residual.result c.from_residual.ensures.1 (goes_first c.in_err-owner.ensures.goes)

pub returns-then-not-next_is-clause-goes : goal.returns-then-not-next_is-clause-goes
unfolding rule factored
returns-then-not-next_is-clause-goes c = goes_then c.in_ok-owner.ensures.goes (goes_absent (sees_then c.next_is.ensures c.if-not-next_is.true))

pub returns-in_err-dot-clause-goes : goal.returns-in_err-dot-clause-goes
unfolding rule factored
returns-in_err-dot-clause-goes c = at_exit c.from_residual-in_err-dot.result c.from_residual-in_err-dot.ensures.1 (goes_then c.in_ok-owner.ensures.goes (goes_present (sees_then c.next_is.ensures c.if-not-next_is.false) (goes_first c.in_err-dot.ensures.goes)))

pub returns-in_err-property-clause-goes : goal.returns-in_err-property-clause-goes
unfolding rule factored
returns-in_err-property-clause-goes c = at_exit c.from_residual-in_err-property.result c.from_residual-in_err-property.ensures.1 (goes_then c.in_ok-owner.ensures.goes (goes_present (sees_then c.next_is.ensures c.if-not-next_is.false) (goes_then c.in_ok-dot.ensures.goes (goes_first c.in_err-property.ensures.goes))))

pub returns-then-not-next_is-2-clause-goes : goal.returns-then-not-next_is-2-clause-goes
unfolding rule factored
returns-then-not-next_is-2-clause-goes c = goes_then c.in_ok-owner.ensures.goes (goes_present (sees_then c.next_is.ensures c.if-not-next_is.false) (goes_then c.in_ok-dot.ensures.goes (goes_then c.in_ok-property.ensures.goes (goes_absent (sees_then c.next_is-2.ensures c.if-not-next_is-2.true)))))

pub returns-in_err-open-clause-goes : goal.returns-in_err-open-clause-goes
unfolding rule factored
returns-in_err-open-clause-goes c = at_exit c.from_residual-in_err-open.result c.from_residual-in_err-open.ensures.1 (goes_then c.in_ok-owner.ensures.goes (goes_present (sees_then c.next_is.ensures c.if-not-next_is.false) (goes_then c.in_ok-dot.ensures.goes (goes_then c.in_ok-property.ensures.goes (goes_present (sees_then c.next_is-2.ensures c.if-not-next_is-2.false) (goes_first c.in_err-open.ensures.goes))))))

pub returns-in_err-close-clause-goes : goal.returns-in_err-close-clause-goes
unfolding rule factored
returns-in_err-close-clause-goes c = at_exit c.from_residual-in_err-close.result c.from_residual-in_err-close.ensures.1 (goes_then c.in_ok-owner.ensures.goes (goes_present (sees_then c.next_is.ensures c.if-not-next_is.false) (goes_then c.in_ok-dot.ensures.goes (goes_then c.in_ok-property.ensures.goes (goes_present (sees_then c.next_is-2.ensures c.if-not-next_is-2.false) (goes_then c.in_ok-open.ensures.goes (c.in_err-close.ensures.goes)))))))

pub returns-clause-goes : goal.returns-clause-goes
unfolding rule factored
returns-clause-goes c = goes_then c.in_ok-owner.ensures.goes (goes_present (sees_then c.next_is.ensures c.if-not-next_is.false) (goes_then c.in_ok-dot.ensures.goes (goes_then c.in_ok-property.ensures.goes (goes_present (sees_then c.next_is-2.ensures c.if-not-next_is-2.false) (goes_then c.in_ok-open.ensures.goes (c.in_ok-close.ensures.goes))))))

pub returns-then-not-next_is-clause-tree : goal.returns-then-not-next_is-clause-tree
unfolding rule factored
returns-then-not-next_is-clause-tree c = as_tree (expr_of-Named _) (ReadsTree.named c.in_ok-owner.ensures.tree)

pub returns-then-not-next_is-2-clause-tree : goal.returns-then-not-next_is-2-clause-tree
unfolding rule factored
returns-then-not-next_is-2-clause-tree c = as_tree (expr_of-Member _ _) (ReadsTree.member c.in_ok-owner.ensures.tree c.in_ok-dot.ensures.tree c.in_ok-property.ensures.tree)

pub returns-clause-tree : goal.returns-clause-tree
unfolding rule factored
returns-clause-tree c = as_tree (expr_of-Method _ _) (ReadsTree.method c.in_ok-owner.ensures.tree c.in_ok-dot.ensures.tree c.in_ok-property.ensures.tree c.in_ok-open.ensures.tree c.in_ok-close.ensures.tree)
