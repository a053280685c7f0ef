use Rattle.gm_parse.specs.Grammar.{AtName, rule}
use Rattle.gm_parse.specs.Factored.{factored}
use Rattle.gm_parse.specs.Trees.{ReadsAt}
use Rattle.gm_parse.proofs.Paths.{at_exit, goes_absent, goes_first, goes_part, goes_present, goes_then}
use Rattle.gm_parse.proofs.statements.at_iterator.Goals as goal
use Rattle.gm_parse.proofs.LevelLaws.{sees_at}

pub returns-then-not-next_is-clause-goes : goal.returns-then-not-next_is-clause-goes
unfolding rule factored
returns-then-not-next_is-clause-goes c = goes_absent (sees_at c.next_is.ensures c.if-not-next_is.true)

pub returns-then-not-next_is-clause-tree : goal.returns-then-not-next_is-clause-tree
unfolding rule factored
returns-then-not-next_is-clause-tree c = ReadsAt.absent

pub returns-in_err-sign-clause-goes : goal.returns-in_err-sign-clause-goes
unfolding rule factored
returns-in_err-sign-clause-goes c = at_exit c.from_residual.result c.from_residual.ensures.1 (goes_present (sees_at c.next_is.ensures c.if-not-next_is.false) (goes_part AtName (goes_first c.in_err-sign.ensures.goes)))

pub returns-in_err-iterator-clause-goes : goal.returns-in_err-iterator-clause-goes
unfolding rule factored
returns-in_err-iterator-clause-goes c = at_exit c.from_residual-in_err-iterator.result c.from_residual-in_err-iterator.ensures.1 (goes_present (sees_at c.next_is.ensures c.if-not-next_is.false) (goes_part AtName (goes_then c.in_ok-sign.ensures.goes (c.in_err-iterator.ensures.goes))))

pub returns-clause-goes : goal.returns-clause-goes
unfolding rule factored
returns-clause-goes c = goes_present (sees_at c.next_is.ensures c.if-not-next_is.false) (goes_part AtName (goes_then c.in_ok-sign.ensures.goes (c.in_ok-iterator.ensures.goes)))

pub returns-clause-tree : goal.returns-clause-tree
unfolding rule factored
returns-clause-tree c = ReadsAt.present c.in_ok-sign.ensures.tree c.in_ok-iterator.ensures.tree
