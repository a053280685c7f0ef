use Rattle.std.proofs.Common.{ap, ◌∙◌}
use Rattle.std.specs.Option.{option_and_then}
use Rattle.gm_parse.specs.Choices.{argument_operation}
use Rattle.gm_parse.specs.Trees.{ReadsStmt}
use Rattle.gm_parse.proofs.Paths.{at_exit, goes_first, goes_then}
use Rattle.gm_parse.proofs.ChoiceLaws.{is_argument}
use Rattle.gm_parse.proofs.tuples.pick.Goals as goal

pub returns-in_err-after-clause-goes : goal.returns-in_err-after-clause-goes
returns-in_err-after-clause-goes c = at_exit c.from_residual.result c.from_residual.ensures.1 (goes_first c.in_err-after.ensures.goes)

pub returns-in_err-sign-clause-goes : goal.returns-in_err-sign-clause-goes
returns-in_err-sign-clause-goes c = at_exit c.from_residual-in_err-sign.result c.from_residual-in_err-sign.ensures.1 (goes_then c.in_ok-after.ensures.goes (goes_first (c.in_err-sign.ensures.goes _ (is_argument c.argument_operation-found.ensures c.peek-word.ensures.word))))

pub returns-in_err-end-clause-goes : goal.returns-in_err-end-clause-goes
returns-in_err-end-clause-goes c = at_exit c.from_residual-in_err-end.result c.from_residual-in_err-end.ensures.1 (goes_then c.in_ok-after.ensures.goes (goes_then (c.in_ok-sign.ensures.goes _ (is_argument c.argument_operation-found.ensures c.peek-word.ensures.word)) (goes_first c.in_err-end.ensures.goes)))

pub returns-in_err-iterator-clause-goes : goal.returns-in_err-iterator-clause-goes
returns-in_err-iterator-clause-goes c = at_exit c.from_residual-in_err-iterator.result c.from_residual-in_err-iterator.ensures.1 (goes_then c.in_ok-after.ensures.goes (goes_then (c.in_ok-sign.ensures.goes _ (is_argument c.argument_operation-found.ensures c.peek-word.ensures.word)) (goes_then c.in_ok-end.ensures.goes (goes_first c.in_err-iterator.ensures.goes))))

pub returns-in_err-last-clause-goes : goal.returns-in_err-last-clause-goes
returns-in_err-last-clause-goes c = at_exit c.from_residual-in_err-last.result c.from_residual-in_err-last.ensures.1 (goes_then c.in_ok-after.ensures.goes (goes_then (c.in_ok-sign.ensures.goes _ (is_argument c.argument_operation-found.ensures c.peek-word.ensures.word)) (goes_then c.in_ok-end.ensures.goes (goes_then c.in_ok-iterator.ensures.goes (c.in_err-last.ensures.goes)))))

pub returns-clause-goes : goal.returns-clause-goes
returns-clause-goes c = goes_then c.in_ok-after.ensures.goes (goes_then (c.in_ok-sign.ensures.goes _ (is_argument c.argument_operation-found.ensures c.peek-word.ensures.word)) (goes_then c.in_ok-end.ensures.goes (goes_then c.in_ok-iterator.ensures.goes (c.in_ok-last.ensures.goes))))

pub returns-clause-tree : goal.returns-clause-tree
returns-clause-tree c = ReadsStmt.reduce_tuple c.in_ok-after.ensures.tree (c.in_ok-sign.ensures.tree argument_operation (c.argument_operation-found.ensures ∙ ap (option_and_then argument_operation) c.peek-word.ensures.word)) c.in_ok-end.ensures.tree c.in_ok-iterator.ensures.tree c.in_ok-last.ensures.tree
