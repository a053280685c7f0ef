use Rattle.std.proofs.Common.{ap, ◌∙◌}
use Rattle.std.specs.Option.{option_and_then}
use Rattle.gm_parse.specs.Grammar.{Procedure, rule}
use Rattle.gm_parse.specs.Factored.{factored}
use Rattle.gm_parse.specs.Choices.{procedure_word}
use Rattle.gm_parse.specs.Trees.{ReadsProcedure}
use Rattle.gm_parse.proofs.Paths.{at_exit, goes_first, goes_part, goes_then}
use Rattle.gm_parse.proofs.ChoiceLaws.{is_procedure}
use Rattle.gm_parse.proofs.procedures.procedure.Goals as goal

pub returns-in_err-keyword-clause-goes : goal.returns-in_err-keyword-clause-goes
unfolding rule factored
returns-in_err-keyword-clause-goes c = at_exit c.from_residual.result c.from_residual.ensures.1 (goes_part Procedure (goes_first (c.in_err-keyword.ensures.goes _ (is_procedure c.procedure_word-found.ensures c.peek-word.ensures.word))))

pub returns-in_err-name-clause-goes : goal.returns-in_err-name-clause-goes
unfolding rule factored
returns-in_err-name-clause-goes c = at_exit c.from_residual-in_err-name.result c.from_residual-in_err-name.ensures.1 (goes_part Procedure (goes_then (c.in_ok-keyword.ensures.goes _ (is_procedure c.procedure_word-found.ensures c.peek-word.ensures.word)) (goes_first c.in_err-name.ensures.goes)))

pub returns-in_err-open-clause-goes : goal.returns-in_err-open-clause-goes
unfolding rule factored
returns-in_err-open-clause-goes c = at_exit c.from_residual-in_err-open.result c.from_residual-in_err-open.ensures.1 (goes_part Procedure (goes_then (c.in_ok-keyword.ensures.goes _ (is_procedure c.procedure_word-found.ensures c.peek-word.ensures.word)) (goes_then c.in_ok-name.ensures.goes (goes_first c.in_err-open.ensures.goes))))

pub returns-in_err-inputs-clause-goes : goal.returns-in_err-inputs-clause-goes
unfolding rule factored
returns-in_err-inputs-clause-goes c = at_exit c.from_residual-in_err-inputs.result c.from_residual-in_err-inputs.ensures.1 (goes_part Procedure (goes_then (c.in_ok-keyword.ensures.goes _ (is_procedure c.procedure_word-found.ensures c.peek-word.ensures.word)) (goes_then c.in_ok-name.ensures.goes (goes_then c.in_ok-open.ensures.goes (goes_first c.in_err-inputs.ensures.goes)))))

pub returns-in_err-outs-clause-goes : goal.returns-in_err-outs-clause-goes
unfolding rule factored
returns-in_err-outs-clause-goes c = at_exit c.from_residual-in_err-outs.result c.from_residual-in_err-outs.ensures.1 (goes_part Procedure (goes_then (c.in_ok-keyword.ensures.goes _ (is_procedure c.procedure_word-found.ensures c.peek-word.ensures.word)) (goes_then c.in_ok-name.ensures.goes (goes_then c.in_ok-open.ensures.goes (goes_then c.in_ok-inputs.ensures.goes (goes_first c.in_err-outs.ensures.goes))))))

pub returns-in_err-close-clause-goes : goal.returns-in_err-close-clause-goes
unfolding rule factored
returns-in_err-close-clause-goes c = at_exit c.from_residual-in_err-close.result c.from_residual-in_err-close.ensures.1 (goes_part Procedure (goes_then (c.in_ok-keyword.ensures.goes _ (is_procedure c.procedure_word-found.ensures c.peek-word.ensures.word)) (goes_then c.in_ok-name.ensures.goes (goes_then c.in_ok-open.ensures.goes (goes_then c.in_ok-inputs.ensures.goes (goes_then c.in_ok-outs.ensures.goes (goes_first c.in_err-close.ensures.goes)))))))

pub returns-in_err-typed-clause-goes : goal.returns-in_err-typed-clause-goes
unfolding rule factored
returns-in_err-typed-clause-goes c = at_exit c.from_residual-in_err-typed.result c.from_residual-in_err-typed.ensures.1 (goes_part Procedure (goes_then (c.in_ok-keyword.ensures.goes _ (is_procedure c.procedure_word-found.ensures c.peek-word.ensures.word)) (goes_then c.in_ok-name.ensures.goes (goes_then c.in_ok-open.ensures.goes (goes_then c.in_ok-inputs.ensures.goes (goes_then c.in_ok-outs.ensures.goes (goes_then c.in_ok-close.ensures.goes (goes_first c.in_err-typed.ensures.goes))))))))

pub returns-in_err-body-clause-goes : goal.returns-in_err-body-clause-goes
unfolding rule factored
returns-in_err-body-clause-goes c = at_exit c.from_residual-in_err-body.result c.from_residual-in_err-body.ensures.1 (goes_part Procedure (goes_then (c.in_ok-keyword.ensures.goes _ (is_procedure c.procedure_word-found.ensures c.peek-word.ensures.word)) (goes_then c.in_ok-name.ensures.goes (goes_then c.in_ok-open.ensures.goes (goes_then c.in_ok-inputs.ensures.goes (goes_then c.in_ok-outs.ensures.goes (goes_then c.in_ok-close.ensures.goes (goes_then c.in_ok-typed.ensures.goes (c.in_err-body.ensures.goes)))))))))

pub returns-clause-goes : goal.returns-clause-goes
unfolding rule factored
returns-clause-goes c = goes_part Procedure (goes_then (c.in_ok-keyword.ensures.goes _ (is_procedure c.procedure_word-found.ensures c.peek-word.ensures.word)) (goes_then c.in_ok-name.ensures.goes (goes_then c.in_ok-open.ensures.goes (goes_then c.in_ok-inputs.ensures.goes (goes_then c.in_ok-outs.ensures.goes (goes_then c.in_ok-close.ensures.goes (goes_then c.in_ok-typed.ensures.goes (c.in_ok-body.ensures.goes))))))))

pub returns-clause-tree : goal.returns-clause-tree
unfolding rule factored
returns-clause-tree c = ReadsProcedure.procedure (c.in_ok-keyword.ensures.tree procedure_word (c.procedure_word-found.ensures ∙ ap (option_and_then procedure_word) c.peek-word.ensures.word)) c.in_ok-name.ensures.tree c.in_ok-open.ensures.tree c.in_ok-inputs.ensures.tree c.in_ok-outs.ensures.tree c.in_ok-close.ensures.tree c.in_ok-typed.ensures.tree c.in_ok-body.ensures.tree
