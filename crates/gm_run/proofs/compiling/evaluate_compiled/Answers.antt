use Rattle.std.proofs.Common.{◌∙◌, ap, sym}
use Rattle.gm_ast.specs.Program.{Program}
use Rattle.gm_input.proofs.Answering.{weaker}
use Rattle.gm_input.proofs.Naming.{passed-on}
use Rattle.gm_input.specs.Answers.{format_of}
use Rattle.gm_input.specs.Halts.{IfAnswered}
use Rattle.gm_source_runs.specs.Answers.{IsUnready}
use Rattle.gm_run.specs.Compiled.{RunsAs}
use Rattle.gm_source_runs.specs.Programs.{inputs_of, shape_of}
use Rattle.gm_run.proofs.CompiledLemmas.{outcome_alike, unready_alike}
use Rattle.gm_run.proofs.compiling.evaluate_compiled.Goals as goal

pub returns-in_err-over-clause-halt : goal.returns-in_err-over-clause-halt
returns-in_err-over-clause-halt g c =
    passed-on (λ h. IfAnswered h (λ a. (p : Program) → RunsAs c.args.compiled.now p → IsUnready (format_of c.args.options.now.format) (shape_of p) (inputs_of p) c.args.words.now c.args.text.items a.text.items a.status))
    c.from_residual.result c.in_err-over.field-0.0 c.from_residual.ensures.1
    (weaker _ _ c.in_err-over.field-0.0
    (λ a said. λ p runs. unready_alike c.args.compiled.now p c.args.options.now.format c.args.words.now c.args.text.items a.text.items a.status runs said)
    c.in_err-over.ensures.halt)

pub run_alone-requires-clause-columns : goal.run_alone-requires-clause-columns
run_alone-requires-clause-columns g c = λ _ _. c.requires.rows ∙ sym c.in_ok-over.ensures.columns

pub returns-clause-outcome : goal.returns-clause-outcome
returns-clause-outcome g c = λ p runs.
    outcome_alike c.args.compiled.now p c.args.options.now c.args.words.now c.args.text.items c.in_ok-over.over.graph c.in_ok-over.over.args.items c.in_ok-end.end.outcome runs
    c.in_ok-over.ensures.known c.in_ok-over.ensures.graph c.in_ok-over.ensures.values (ap (λ e. e.outcome) c.in_ok-end.ensures)
