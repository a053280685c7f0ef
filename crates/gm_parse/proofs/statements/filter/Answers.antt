use Rattle.gm_parse.specs.Grammar.{rule}
use Rattle.gm_parse.specs.Factored.{factored}
use Rattle.gm_parse.specs.Trees.{ReadsFilter}
use Rattle.gm_parse.proofs.Paths.{at_exit, goes_absent, goes_present}
use Rattle.gm_parse.proofs.statements.filter.Goals as goal
use Rattle.gm_parse.proofs.LevelLaws.{sees_condition}

pub returns-then-not-next_is-clause-goes : goal.returns-then-not-next_is-clause-goes
unfolding rule factored
returns-then-not-next_is-clause-goes c = goes_absent (sees_condition c.next_is.ensures c.if-not-next_is.true)

pub returns-then-not-next_is-clause-tree : goal.returns-then-not-next_is-clause-tree
unfolding rule factored
returns-then-not-next_is-clause-tree c = ReadsFilter.absent

pub returns-in_err-test-clause-goes : goal.returns-in_err-test-clause-goes
unfolding rule factored
returns-in_err-test-clause-goes c = at_exit c.from_residual.result c.from_residual.ensures.1 (goes_present (sees_condition c.next_is.ensures c.if-not-next_is.false) (c.in_err-test.ensures.goes))

pub returns-clause-goes : goal.returns-clause-goes
unfolding rule factored
returns-clause-goes c = goes_present (sees_condition c.next_is.ensures c.if-not-next_is.false) (c.in_ok-test.ensures.goes)

pub returns-clause-tree : goal.returns-clause-tree
unfolding rule factored
returns-clause-tree c = ReadsFilter.present c.in_ok-test.ensures.tree
