use Rattle.gm_parse.specs.Grammar.{rule}
use Rattle.gm_parse.specs.Factored.{factored}
use Rattle.gm_parse.specs.Trees.{ReadsResult}
use Rattle.gm_parse.proofs.Paths.{at_exit, goes_absent, goes_first, goes_present, goes_then, sees_then}
use Rattle.gm_parse.proofs.procedures.result_type.Goals as goal

pub returns-then-not-next_is-clause-goes : goal.returns-then-not-next_is-clause-goes
unfolding rule factored
returns-then-not-next_is-clause-goes c = goes_absent (sees_then c.next_is.ensures c.if-not-next_is.true)

pub returns-then-not-next_is-clause-tree : goal.returns-then-not-next_is-clause-tree
unfolding rule factored
returns-then-not-next_is-clause-tree c = ReadsResult.absent

pub returns-in_err-colon-clause-goes : goal.returns-in_err-colon-clause-goes
unfolding rule factored
returns-in_err-colon-clause-goes c = at_exit c.from_residual.result c.from_residual.ensures.1 (goes_present (sees_then c.next_is.ensures c.if-not-next_is.false) (goes_first c.in_err-colon.ensures.goes))

pub returns-in_err-vtype-clause-goes : goal.returns-in_err-vtype-clause-goes
unfolding rule factored
returns-in_err-vtype-clause-goes c = at_exit c.from_residual-in_err-vtype.result c.from_residual-in_err-vtype.ensures.1 (goes_present (sees_then c.next_is.ensures c.if-not-next_is.false) (goes_then c.in_ok-colon.ensures.goes (c.in_err-vtype.ensures.goes)))

pub returns-clause-goes : goal.returns-clause-goes
unfolding rule factored
returns-clause-goes c = goes_present (sees_then c.next_is.ensures c.if-not-next_is.false) (goes_then c.in_ok-colon.ensures.goes (c.in_ok-vtype.ensures.goes))

pub returns-clause-tree : goal.returns-clause-tree
unfolding rule factored
returns-clause-tree c = ReadsResult.present c.in_ok-colon.ensures.tree c.in_ok-vtype.ensures.tree
