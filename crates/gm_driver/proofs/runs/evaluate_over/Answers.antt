use Rattle.std.proofs.Common.{◌≡◌, subst}
use Rattle.std.proofs.lemmas.Result.{IfErr-weaker, IfOk-weaker}
use Rattle.gm_ast.specs.Program.{Program}
use Rattle.gm_ast.specs.Tree.{program_of}
use Rattle.gm_input.specs.Answers.{format_of}
use Rattle.gm_input.proofs.Answering.{weaker}
use Rattle.gm_source_runs.specs.Answers.{HasOutcome, IsUnready}
use Rattle.gm_source_runs.specs.Programs.{inputs_of, shape_of}
use Rattle.gm_driver.proofs.runs.evaluate_over.Goals as goal

pub evaluate_compiled-requires-clause-rows : goal.evaluate_compiled-requires-clause-rows
evaluate_compiled-requires-clause-rows g c = λ _ _. rw c.in-Compiled.is at c.requires.rows

pub returns-in-Compiled-clause-outcome : goal.returns-in-Compiled-clause-outcome
returns-in-Compiled-clause-outcome g c = IfOk-weaker c.evaluate_compiled.result _ _ (λ over h. λ p runs. h p (rw c.in-Compiled.is at runs)) c.evaluate_compiled.ensures.outcome

pub returns-in-Compiled-clause-halt : goal.returns-in-Compiled-clause-halt
returns-in-Compiled-clause-halt g c = IfErr-weaker c.evaluate_compiled.result _ _ (λ h. weaker _ _ h (λ a said. λ p runs. said p (rw c.in-Compiled.is at runs))) c.evaluate_compiled.ensures.halt

pub returns-in-Source-clause-outcome : goal.returns-in-Source-clause-outcome
returns-in-Source-clause-outcome g c =
    IfOk-weaker c.evaluate_text.result _ _
    (λ over h. λ p runs.
    let is : program_of c.in-Source.work ≡ p = rw c.in-Source.is at runs in
    subst (λ (q : Program). HasOutcome q c.args.words.now c.args.options.now c.args.text.items over.graph over.outcome) is h)
    c.evaluate_text.ensures.outcome

pub returns-in-Source-clause-halt : goal.returns-in-Source-clause-halt
returns-in-Source-clause-halt g c =
    IfErr-weaker c.evaluate_text.result _ _
    (λ h. weaker _ _ h (λ a said. λ p runs.
    let is : program_of c.in-Source.work ≡ p = rw c.in-Source.is at runs in
    subst (λ (q : Program). IsUnready (format_of c.args.options.now.format) (shape_of q) (inputs_of q) c.args.words.now c.args.text.items a.text.items a.status) is said))
    c.evaluate_text.ensures.halt
