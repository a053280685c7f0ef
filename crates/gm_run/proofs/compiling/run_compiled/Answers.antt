use Rattle.gm_ast.specs.Program.{Program}
use Rattle.gm_input.proofs.Answering.{said_on, weaker}
use Rattle.gm_source_runs.specs.Answers.{IsTextAnswer, Ran}
use Rattle.gm_run.specs.Compiled.{RunsAs}
use Rattle.gm_source_runs.proofs.AnswersLemmas.{outcome_answers, outcome_listed, unready_answers}
use Rattle.gm_run.proofs.compiling.run_compiled.Goals as goal

pub returns-in_err-over : goal.returns-in_err-over
returns-in_err-over g c =
    said_on (λ a. (p : Program) → RunsAs c.args.compiled.now p → IsTextAnswer p c.args.words.now c.args.options.now c.args.text.items a.text.items a.status)
    c.from_residual.result c.in_err-over.field-0.0 c.from_residual.ensures.1
    (weaker _ _ c.in_err-over.field-0.0
    (λ a said. λ p runs. unready_answers _ _ _ c.args.words.now (Ran p c.args.options.now.turns) c.args.text.items a.text.items a.status (said p runs))
    c.in_err-over.ensures.halt)

pub returns : goal.returns
returns g c = λ p runs.
    let it = c.in_ok-over.ensures.outcome p runs in
    outcome_answers p c.args.words.now c.args.options.now (Ran p c.args.options.now.turns) c.args.text.items c.in_ok-over.over.graph c.in_ok-over.over.outcome c.in_ok-answer.answer.text.items c.in_ok-answer.answer.status it
    (outcome_listed p c.args.words.now c.args.options.now c.args.text.items c.in_ok-over.over.graph c.in_ok-over.over.outcome c.in_ok-answer.answer.text.items c.in_ok-answer.answer.status it
    (rw (c.deref.ensures.value, runs.outputs) at c.in_ok-answer.ensures))
