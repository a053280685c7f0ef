use Rattle.std.proofs.Common.{ap, ◌∙◌}
use Rattle.std.specs.Option.{option_and_then}
use Rattle.gm_parse.specs.Grammar.{ReduceSign, rule}
use Rattle.gm_parse.specs.Factored.{factored}
use Rattle.gm_parse.specs.Choices.{reduce_sign}
use Rattle.gm_parse.specs.Trees.{ReadsStmt}
use Rattle.gm_parse.proofs.Paths.{at_exit, goes_first, goes_part, goes_then}
use Rattle.gm_parse.proofs.ChoiceLaws.{is_reduce}
use Rattle.gm_parse.proofs.assignments.reduced_value.Goals as goal

pub returns-in_err-sign-clause-goes : goal.returns-in_err-sign-clause-goes
unfolding rule factored
returns-in_err-sign-clause-goes c = at_exit c.from_residual.result c.from_residual.ensures.1 (goes_first (goes_part ReduceSign (c.in_err-sign.ensures.goes _ (is_reduce c.reduce_sign-found.ensures c.peek-word.ensures.word))))

pub returns-in_err-value-clause-goes : goal.returns-in_err-value-clause-goes
unfolding rule factored
returns-in_err-value-clause-goes c = at_exit c.from_residual-in_err-value.result c.from_residual-in_err-value.ensures.1 (goes_then (goes_part ReduceSign (c.in_ok-sign.ensures.goes _ (is_reduce c.reduce_sign-found.ensures c.peek-word.ensures.word))) (goes_first c.in_err-value.ensures.goes))

pub returns-in_err-iterator-clause-goes : goal.returns-in_err-iterator-clause-goes
unfolding rule factored
returns-in_err-iterator-clause-goes c = at_exit c.from_residual-in_err-iterator.result c.from_residual-in_err-iterator.ensures.1 (goes_then (goes_part ReduceSign (c.in_ok-sign.ensures.goes _ (is_reduce c.reduce_sign-found.ensures c.peek-word.ensures.word))) (goes_then c.in_ok-value.ensures.goes (goes_first c.in_err-iterator.ensures.goes)))

pub returns-in_err-last-clause-goes : goal.returns-in_err-last-clause-goes
unfolding rule factored
returns-in_err-last-clause-goes c = at_exit c.from_residual-in_err-last.result c.from_residual-in_err-last.ensures.1 (goes_then (goes_part ReduceSign (c.in_ok-sign.ensures.goes _ (is_reduce c.reduce_sign-found.ensures c.peek-word.ensures.word))) (goes_then c.in_ok-value.ensures.goes (goes_then c.in_ok-iterator.ensures.goes (c.in_err-last.ensures.goes))))

pub returns-clause-goes : goal.returns-clause-goes
unfolding rule factored
returns-clause-goes c = goes_then (goes_part ReduceSign (c.in_ok-sign.ensures.goes _ (is_reduce c.reduce_sign-found.ensures c.peek-word.ensures.word))) (goes_then c.in_ok-value.ensures.goes (goes_then c.in_ok-iterator.ensures.goes (c.in_ok-last.ensures.goes)))

pub returns-clause-tree : goal.returns-clause-tree
returns-clause-tree c = λ us t r. ReadsStmt.reduce r (c.in_ok-sign.ensures.tree reduce_sign (c.reduce_sign-found.ensures ∙ ap (option_and_then reduce_sign) c.peek-word.ensures.word)) c.in_ok-value.ensures.tree c.in_ok-iterator.ensures.tree c.in_ok-last.ensures.tree
