use Rattle.gm_parse.specs.Grammar.{rule}
use Rattle.gm_parse.specs.Factored.{factored}
use Rattle.gm_parse.specs.Trees.{ReadsTree}
use Rattle.gm_parse.proofs.Paths.{at_exit, goes_left, goes_right, sees}
use Rattle.gm_parse.proofs.TreeLaws.{as_tree}
use Rattle.gm_parse.proofs.expressions.literal.Goals as goal
use Rattle.gm_ast.proofs.SurfaceTrees.{expr_of-Truth, expr_of-Nil, expr_of-Greatest}

pub returns-in_err-figure-clause-goes : goal.returns-in_err-figure-clause-goes
unfolding rule factored
returns-in_err-figure-clause-goes c = at_exit c.from_residual.result c.from_residual.ensures.1 (goes_left (sees c.next_is.ensures c.if-next_is.true) (c.in_err-figure.ensures.goes))

pub returns-in_ok-figure-clause-goes : goal.returns-in_ok-figure-clause-goes
unfolding rule factored
returns-in_ok-figure-clause-goes c = goes_left (sees c.next_is.ensures c.if-next_is.true) (c.in_ok-figure.ensures.goes)

pub returns-in_ok-figure-clause-tree : goal.returns-in_ok-figure-clause-tree
unfolding rule factored
returns-in_ok-figure-clause-tree c = c.in_ok-figure.ensures.tree

pub returns-in_err-truth-clause-goes : goal.returns-in_err-truth-clause-goes
unfolding rule factored
returns-in_err-truth-clause-goes c = at_exit c.from_residual-in_err-truth.result c.from_residual-in_err-truth.ensures.1 (goes_right (sees c.next_is.ensures c.if-next_is.false) (goes_left (sees c.next_is-else-next_is.ensures c.if-next_is-2.true) (c.in_err-truth.ensures.goes)))

pub returns-in_ok-truth-clause-goes : goal.returns-in_ok-truth-clause-goes
unfolding rule factored
returns-in_ok-truth-clause-goes c = goes_right (sees c.next_is.ensures c.if-next_is.false) (goes_left (sees c.next_is-else-next_is.ensures c.if-next_is-2.true) (c.in_ok-truth.ensures.goes))

pub returns-in_ok-truth-clause-tree : goal.returns-in_ok-truth-clause-tree
unfolding rule factored
returns-in_ok-truth-clause-tree c = as_tree (expr_of-Truth _ _) (ReadsTree.truth c.in_ok-truth.ensures.tree)

pub returns-in_err-falsehood-clause-goes : goal.returns-in_err-falsehood-clause-goes
unfolding rule factored
returns-in_err-falsehood-clause-goes c = at_exit c.from_residual-in_err-falsehood.result c.from_residual-in_err-falsehood.ensures.1 (goes_right (sees c.next_is.ensures c.if-next_is.false) (goes_right (sees c.next_is-else-next_is.ensures c.if-next_is-2.false) (goes_left (sees c.next_is-else-next_is-2.ensures c.if-next_is-3.true) (c.in_err-falsehood.ensures.goes))))

pub returns-in_ok-falsehood-clause-goes : goal.returns-in_ok-falsehood-clause-goes
unfolding rule factored
returns-in_ok-falsehood-clause-goes c = goes_right (sees c.next_is.ensures c.if-next_is.false) (goes_right (sees c.next_is-else-next_is.ensures c.if-next_is-2.false) (goes_left (sees c.next_is-else-next_is-2.ensures c.if-next_is-3.true) (c.in_ok-falsehood.ensures.goes)))

pub returns-in_ok-falsehood-clause-tree : goal.returns-in_ok-falsehood-clause-tree
unfolding rule factored
returns-in_ok-falsehood-clause-tree c = as_tree (expr_of-Truth _ _) (ReadsTree.falsehood c.in_ok-falsehood.ensures.tree)

pub returns-in_err-nil-clause-goes : goal.returns-in_err-nil-clause-goes
unfolding rule factored
returns-in_err-nil-clause-goes c = at_exit c.from_residual-in_err-nil.result c.from_residual-in_err-nil.ensures.1 (goes_right (sees c.next_is.ensures c.if-next_is.false) (goes_right (sees c.next_is-else-next_is.ensures c.if-next_is-2.false) (goes_right (sees c.next_is-else-next_is-2.ensures c.if-next_is-3.false) (goes_left (sees c.next_is-else-next_is-3.ensures c.if-next_is-4.true) (c.in_err-nil.ensures.goes)))))

pub returns-in_ok-nil-clause-goes : goal.returns-in_ok-nil-clause-goes
unfolding rule factored
returns-in_ok-nil-clause-goes c = goes_right (sees c.next_is.ensures c.if-next_is.false) (goes_right (sees c.next_is-else-next_is.ensures c.if-next_is-2.false) (goes_right (sees c.next_is-else-next_is-2.ensures c.if-next_is-3.false) (goes_left (sees c.next_is-else-next_is-3.ensures c.if-next_is-4.true) (c.in_ok-nil.ensures.goes))))

pub returns-in_ok-nil-clause-tree : goal.returns-in_ok-nil-clause-tree
unfolding rule factored
returns-in_ok-nil-clause-tree c = as_tree (expr_of-Nil _) (ReadsTree.nil c.in_ok-nil.ensures.tree)

pub returns-in_err-greatest-clause-goes : goal.returns-in_err-greatest-clause-goes
unfolding rule factored
returns-in_err-greatest-clause-goes c = at_exit c.from_residual-in_err-greatest.result c.from_residual-in_err-greatest.ensures.1 (goes_right (sees c.next_is.ensures c.if-next_is.false) (goes_right (sees c.next_is-else-next_is.ensures c.if-next_is-2.false) (goes_right (sees c.next_is-else-next_is-2.ensures c.if-next_is-3.false) (goes_right (sees c.next_is-else-next_is-3.ensures c.if-next_is-4.false) (goes_left (sees c.next_is-else-next_is-4.ensures c.if-next_is-5.true) (c.in_err-greatest.ensures.goes))))))

pub returns-in_ok-greatest-clause-goes : goal.returns-in_ok-greatest-clause-goes
unfolding rule factored
returns-in_ok-greatest-clause-goes c = goes_right (sees c.next_is.ensures c.if-next_is.false) (goes_right (sees c.next_is-else-next_is.ensures c.if-next_is-2.false) (goes_right (sees c.next_is-else-next_is-2.ensures c.if-next_is-3.false) (goes_right (sees c.next_is-else-next_is-3.ensures c.if-next_is-4.false) (goes_left (sees c.next_is-else-next_is-4.ensures c.if-next_is-5.true) (c.in_ok-greatest.ensures.goes)))))

pub returns-in_ok-greatest-clause-tree : goal.returns-in_ok-greatest-clause-tree
unfolding rule factored
returns-in_ok-greatest-clause-tree c = as_tree (expr_of-Greatest _) (ReadsTree.greatest c.in_ok-greatest.ensures.tree)

pub returns-in_err-named-clause-goes : goal.returns-in_err-named-clause-goes
unfolding rule factored
returns-in_err-named-clause-goes c = at_exit c.from_residual-in_err-named.result c.from_residual-in_err-named.ensures.1 (goes_right (sees c.next_is.ensures c.if-next_is.false) (goes_right (sees c.next_is-else-next_is.ensures c.if-next_is-2.false) (goes_right (sees c.next_is-else-next_is-2.ensures c.if-next_is-3.false) (goes_right (sees c.next_is-else-next_is-3.ensures c.if-next_is-4.false) (goes_right (sees c.next_is-else-next_is-4.ensures c.if-next_is-5.false) (c.in_err-named.ensures.goes))))))

pub returns-in_ok-named-clause-goes : goal.returns-in_ok-named-clause-goes
unfolding rule factored
returns-in_ok-named-clause-goes c = goes_right (sees c.next_is.ensures c.if-next_is.false) (goes_right (sees c.next_is-else-next_is.ensures c.if-next_is-2.false) (goes_right (sees c.next_is-else-next_is-2.ensures c.if-next_is-3.false) (goes_right (sees c.next_is-else-next_is-3.ensures c.if-next_is-4.false) (goes_right (sees c.next_is-else-next_is-4.ensures c.if-next_is-5.false) (c.in_ok-named.ensures.goes)))))
