use Rattle.std.proofs.Common.{is_some, ap}
use Rattle.gm_token.specs.Tokens.{words_of}
use Rattle.gm_parse.specs.Grammar.{rule}
use Rattle.gm_parse.specs.Factored.{factored, an_assignment}
use Rattle.gm_parse.proofs.Paths.{at_exit, goes_first, goes_left, goes_nowhere, goes_right, goes_then, sees_then}
use Rattle.gm_parse.proofs.ChoiceLaws.{is_reduce, sees_reduce}
use Rattle.gm_parse.proofs.TreeLaws.{as_stmt}
use Rattle.gm_ast.proofs.SurfaceTrees.{stmt_of-Assign, stmt_of-Defer, stmt_of-Increment}
use Rattle.gm_parse.proofs.assignments.assignment.Goals as goal

pub returns-in_err-target-clause-goes : goal.returns-in_err-target-clause-goes
unfolding rule factored
returns-in_err-target-clause-goes c = at_exit c.from_residual.result c.from_residual.ensures.1 (goes_first c.in_err-target.ensures.goes)

pub returns-in_err-valued-clause-goes : goal.returns-in_err-valued-clause-goes
unfolding rule factored
returns-in_err-valued-clause-goes c = at_exit c.from_residual-in_err-valued.result c.from_residual-in_err-valued.ensures.1 (goes_then c.in_ok-target.ensures.goes (goes_left (sees_then c.next_is.ensures c.if-next_is.true) c.in_err-valued.ensures.goes))

pub returns-in_ok-valued-clause-goes : goal.returns-in_ok-valued-clause-goes
unfolding rule factored
returns-in_ok-valued-clause-goes c = goes_then c.in_ok-target.ensures.goes (goes_left (sees_then c.next_is.ensures c.if-next_is.true) c.in_ok-valued.ensures.goes)

pub returns-in_ok-valued-clause-tree : goal.returns-in_ok-valued-clause-tree
unfolding rule factored
returns-in_ok-valued-clause-tree c = as_stmt (stmt_of-Assign _ _ _) (c.in_ok-valued.ensures.tree _ _ c.in_ok-target.ensures.tree)

pub returns-in_err-later-clause-goes : goal.returns-in_err-later-clause-goes
unfolding rule factored
returns-in_err-later-clause-goes c = at_exit c.from_residual-in_err-later.result c.from_residual-in_err-later.ensures.1 (goes_then c.in_ok-target.ensures.goes (goes_right (sees_then c.next_is.ensures c.if-next_is.false) (goes_left (sees_then c.next_is-else-next_is.ensures c.if-next_is-2.true) c.in_err-later.ensures.goes)))

pub returns-in_ok-later-clause-goes : goal.returns-in_ok-later-clause-goes
unfolding rule factored
returns-in_ok-later-clause-goes c = goes_then c.in_ok-target.ensures.goes (goes_right (sees_then c.next_is.ensures c.if-next_is.false) (goes_left (sees_then c.next_is-else-next_is.ensures c.if-next_is-2.true) c.in_ok-later.ensures.goes))

pub returns-in_ok-later-clause-tree : goal.returns-in_ok-later-clause-tree
unfolding rule factored
returns-in_ok-later-clause-tree c = as_stmt (stmt_of-Defer _ _ _ _) (c.in_ok-later.ensures.tree _ _ c.in_ok-target.ensures.tree)

pub returns-in_err-place-in-None-clause-goes : goal.returns-in_err-place-in-None-clause-goes
unfolding rule factored
returns-in_err-place-in-None-clause-goes c = at_exit c.from_residual-in_err-place-in-None.result c.from_residual-in_err-place-in-None.ensures.1 (goes_then c.in_ok-target.ensures.goes (goes_right (sees_then c.next_is.ensures c.if-next_is.false) (goes_right (sees_then c.next_is-else-next_is.ensures c.if-next_is-2.false) (goes_right (sees_reduce _ (is_reduce c.reduce_sign-found.ensures c.peek-word.ensures.word) (ap is_some c.in-None.is)) c.in_err-place-in-None.ensures.goes))))

pub returns-in_ok-place-in-None-clause-goes : goal.returns-in_ok-place-in-None-clause-goes
unfolding rule factored
returns-in_ok-place-in-None-clause-goes c = goes_then c.in_ok-target.ensures.goes (goes_right (sees_then c.next_is.ensures c.if-next_is.false) (goes_right (sees_then c.next_is-else-next_is.ensures c.if-next_is-2.false) (goes_right (sees_reduce _ (is_reduce c.reduce_sign-found.ensures c.peek-word.ensures.word) (ap is_some c.in-None.is)) c.in_ok-place-in-None.ensures.goes)))

pub returns-in_ok-place-in-None-clause-tree : goal.returns-in_ok-place-in-None-clause-tree
unfolding rule factored
returns-in_ok-place-in-None-clause-tree c = as_stmt (stmt_of-Increment _ _) (c.in_ok-place-in-None.ensures.tree _ _ c.in_ok-target.ensures.tree)

pub returns-in_err-part-in-Some-clause-goes : goal.returns-in_err-part-in-Some-clause-goes
unfolding rule factored
returns-in_err-part-in-Some-clause-goes c = at_exit c.from_residual-in_err-part-in-Some.result c.from_residual-in_err-part-in-Some.ensures.1 (goes_then c.in_ok-target.ensures.goes (goes_right (sees_then c.next_is.ensures c.if-next_is.false) (goes_right (sees_then c.next_is-else-next_is.ensures c.if-next_is-2.false) (goes_left (sees_reduce _ (is_reduce c.reduce_sign-found.ensures c.peek-word.ensures.word) (ap is_some c.in-Some.is)) c.in_err-part-in-Some.ensures.goes))))

pub returns-in_err-reduction-in-Some-clause-goes : goal.returns-in_err-reduction-in-Some-clause-goes
unfolding rule factored
returns-in_err-reduction-in-Some-clause-goes c = at_exit c.from_residual-in_err-reduction-in-Some.result c.from_residual-in_err-reduction-in-Some.ensures.1 (goes_nowhere an_assignment c.args.around (words_of c.args.tokens.now) c.args.at)

pub returns-in_ok-reduction-in-Some-clause-goes : goal.returns-in_ok-reduction-in-Some-clause-goes
unfolding rule factored
returns-in_ok-reduction-in-Some-clause-goes c = goes_then c.in_ok-target.ensures.goes (goes_right (sees_then c.next_is.ensures c.if-next_is.false) (goes_right (sees_then c.next_is-else-next_is.ensures c.if-next_is-2.false) (goes_left (sees_reduce _ (is_reduce c.reduce_sign-found.ensures c.peek-word.ensures.word) (ap is_some c.in-Some.is)) c.in_ok-part-in-Some.ensures.goes)))

pub returns-in_ok-reduction-in-Some-clause-tree : goal.returns-in_ok-reduction-in-Some-clause-tree
unfolding rule factored
returns-in_ok-reduction-in-Some-clause-tree c = as_stmt c.in_ok-reduction-in-Some.ensures (c.in_ok-part-in-Some.ensures.tree _ _ c.in_ok-target.ensures.tree)
