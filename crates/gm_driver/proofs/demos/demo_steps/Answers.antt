use Rattle.std.proofs.Common.{◌∙◌, refl, arith}
use Rattle.gm_input.proofs.Answering.{said_on, weaker}
use Rattle.gm_driver.specs.Demos.{IsDemoAnswer, refused}
use Rattle.gm_driver.proofs.DemoLemmas.{demo_says, demo_unready}
use Rattle.gm_driver.proofs.demos.demo_steps.Goals as goal

pub returns-in_err-it : goal.returns-in_err-it
returns-in_err-it g c =
    said_on (λ a. IsDemoAnswer c.args.nodes a.text.items a.status) c.from_residual.result c.in_err-it.field-0.0 c.from_residual.ensures.1
    (weaker _ _ c.in_err-it.field-0.0 (λ a said. refused said) c.in_err-it.ensures.halt)

pub evaluate_over-requires-clause-assign : goal.evaluate_over-requires-clause-assign
evaluate_over-requires-clause-assign g c = λ _ _. rw (c.deref.ensures.value, c.in_ok-words.ensures) refl

pub evaluate_over-requires-clause-right : goal.evaluate_over-requires-clause-right
evaluate_over-requires-clause-right g c = λ _ _. record { some_worker = c.requires.right.some_worker; few_workers = c.requires.right.few_workers; few_turns = omega arith }

pub evaluate_over-requires-clause-rows : goal.evaluate_over-requires-clause-rows
evaluate_over-requires-clause-rows g c = λ _ _. c.in_ok-it.ensures.runs.rows

pub returns-in_err-over : goal.returns-in_err-over
returns-in_err-over g c =
    let it = c.in_ok-it.ensures.runs in
    said_on (λ a. IsDemoAnswer c.args.nodes a.text.items a.status) c.from_residual-in_err-over.result c.in_err-over.field-0.0 c.from_residual-in_err-over.ensures.1
    (weaker _ _ c.in_err-over.field-0.0
    (λ a said. demo_unready c.args.nodes it.source _ _ _ a.text.items a.status it.stands (c.deref.ensures.value ∙ c.in_ok-words.ensures) c.in_ok-text.ensures refl (said it.source it.runs))
    c.in_err-over.ensures.halt)

pub returns : goal.returns
returns g c =
    let it = c.in_ok-it.ensures.runs in
    demo_says c.args.nodes it.source _ _ _ _ c.in_ok-over.over.graph c.in_ok-over.over.outcome c.in_ok-answer.answer.text.items c.in_ok-answer.answer.status
    it.stands (c.deref.ensures.value ∙ c.in_ok-words.ensures) c.in_ok-text.ensures refl refl (c.outputs_of.ensures it.source it.runs) (c.in_ok-over.ensures.outcome it.source it.runs) c.in_ok-answer.ensures
