use Rattle.gm_parse.specs.Grammar.{rule}
use Rattle.gm_parse.specs.Factored.{factored}
use Rattle.gm_parse.specs.Trees.{ReadsFrom}
use Rattle.gm_parse.proofs.Paths.{goes_left, goes_right, sees}
use Rattle.gm_parse.proofs.statements.from_root.Goals as goal
use Rattle.gm_parse.proofs.StatementLaws.{at_stop}

pub returns-in_err-from-clause-goes : goal.returns-in_err-from-clause-goes
unfolding rule factored
returns-in_err-from-clause-goes c = at_stop c.from_residual.result c.from_residual.ensures.1 (goes_left (sees c.next_is.ensures c.if-next_is.true) c.in_err-from.ensures.goes)

pub returns-in_ok-from-clause-goes : goal.returns-in_ok-from-clause-goes
unfolding rule factored
returns-in_ok-from-clause-goes c = goes_left (sees c.next_is.ensures c.if-next_is.true) c.in_ok-from.ensures.goes

pub returns-in_err-semicolon-clause-goes : goal.returns-in_err-semicolon-clause-goes
unfolding rule factored
returns-in_err-semicolon-clause-goes c = at_stop c.from_residual-in_err-semicolon.result c.from_residual-in_err-semicolon.ensures.1 (goes_right (sees c.next_is.ensures c.if-next_is.false) c.in_err-semicolon.ensures.goes)

pub returns-in_ok-semicolon-clause-goes : goal.returns-in_ok-semicolon-clause-goes
unfolding rule factored
returns-in_ok-semicolon-clause-goes c = goes_right (sees c.next_is.ensures c.if-next_is.false) c.in_ok-semicolon.ensures.goes

pub returns-in_ok-from-clause-tree : goal.returns-in_ok-from-clause-tree
unfolding rule factored
returns-in_ok-from-clause-tree c = ReadsFrom.from c.in_ok-from.ensures.tree

pub returns-in_ok-semicolon-clause-tree : goal.returns-in_ok-semicolon-clause-tree
unfolding rule factored
returns-in_ok-semicolon-clause-tree c = ReadsFrom.semicolon c.in_ok-semicolon.ensures.tree
