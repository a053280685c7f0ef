use Rattle.std.proofs.Common.{◌∙◌, sym}
use Rattle.gm_image.specs.Views.{program}
use Rattle.gm_input.proofs.Answering.{said_on, weaker}
use Rattle.gm_ast.specs.Program.{Program}
use Rattle.gm_run.specs.Compiled.{IsShownAnswer, RanShown, RunsAs}
use Rattle.gm_run.proofs.CompiledLemmas.{ready_says, shown_says, unready_says}
use Rattle.gm_run.proofs.compiling.show_compiled.Goals as goal

pub returns-in_err-over : goal.returns-in_err-over
returns-in_err-over g c =
    said_on (λ a. (p : Program) → RunsAs c.args.compiled.now p → IsShownAnswer (program c.args.compiled.now.image) p c.args.words.now c.args.options.now _ c.args.text.items a.text.items a.status)
    c.from_residual.result c.in_err-over.field-0.0 c.from_residual.ensures.1
    (weaker _ _ c.in_err-over.field-0.0
    (λ a said. λ p runs. unready_says c.args.compiled.now p c.args.options.now.format c.args.words.now (RanShown (program c.args.compiled.now.image) p c.args.options.now.turns c.args.options.now.observe _) c.args.text.items a.text.items a.status runs said)
    c.in_err-over.ensures.halt)

pub run_shown-requires-clause-columns : goal.run_shown-requires-clause-columns
run_shown-requires-clause-columns g c = λ _ _. c.requires.rows ∙ sym c.in_ok-over.ensures.columns

pub returns : goal.returns
returns g c = λ p runs.
    ready_says c.args.compiled.now p c.args.options.now.format c.args.words.now (RanShown (program c.args.compiled.now.image) p c.args.options.now.turns c.args.options.now.observe _) c.args.text.items c.in_ok-over.over.graph c.in_ok-over.over.args.items
    c.in_ok-answer.answer.text.items c.in_ok-answer.answer.status runs c.in_ok-over.ensures.graph c.in_ok-over.ensures.values
    (shown_says c.args.compiled.now p c.args.options.now.turns c.args.options.now.observe _ c.in_ok-over.over.graph c.in_ok-over.over.args.items c.in_ok-answer.answer.text.items c.in_ok-answer.answer.status
    runs c.in_ok-answer.ensures)
