use Rattle.gm_parse.specs.Grammar.{rule}
use Rattle.gm_parse.specs.Factored.{factored}
use Rattle.gm_parse.specs.Nesting.{Closes}
use Rattle.gm_parse.proofs.Paths.{at_exit}
use Rattle.gm_parse.proofs.types.type_name.Goals as goal

pub returns-in_err-bearers-clause-goes : goal.returns-in_err-bearers-clause-goes
unfolding rule factored
returns-in_err-bearers-clause-goes c = at_exit c.from_residual.result c.from_residual.ensures.1 c.in_err-bearers.ensures.fault

pub returns-in_err-inner-clause-goes : goal.returns-in_err-inner-clause-goes
unfolding rule factored
returns-in_err-inner-clause-goes c = at_exit c.from_residual-in_err-inner.result c.from_residual-in_err-inner.ensures.1 (c.in_ok-bearers.ensures.goes.goes _ _ c.in_err-inner.ensures.goes Closes.fault)

pub returns-in_err-whole-clause-goes : goal.returns-in_err-whole-clause-goes
unfolding rule factored
returns-in_err-whole-clause-goes c = at_exit c.from_residual-in_err-whole.result c.from_residual-in_err-whole.ensures.1 (c.in_ok-bearers.ensures.goes.goes _ _ c.in_ok-inner.ensures.goes c.in_err-whole.ensures.goes)

pub returns-clause-goes : goal.returns-clause-goes
unfolding rule factored
returns-clause-goes c = c.in_ok-bearers.ensures.goes.goes _ _ c.in_ok-inner.ensures.goes c.in_ok-whole.ensures.goes

pub returns-clause-tree : goal.returns-clause-tree
unfolding rule factored
returns-clause-tree c = c.in_ok-whole.ensures.tree _ _ c.in_ok-bearers.ensures.tree c.in_ok-inner.ensures.tree
