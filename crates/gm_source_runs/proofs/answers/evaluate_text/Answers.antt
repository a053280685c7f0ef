use Rattle.std.proofs.Common.{◌≡◌}
use Rattle.std.specs.Prelude.{Ok}
use Rattle.gm_words.specs.Arguments.{values_bound}
use Rattle.gm_ast.specs.Tree.{program_of}
use Rattle.gm_input.specs.Answers.{IsGraphOf, format_of}
use Rattle.gm_input.specs.Halts.{IfAnswered}
use Rattle.gm_input.proofs.Answering.{weaker}
use Rattle.gm_input.proofs.Naming.{passed-on}
use Rattle.gm_source_runs.specs.Answers.{IsUnready, bad_text, bad_words}
use Rattle.gm_source_runs.specs.Programs.{inputs_of, shape_of}
use Rattle.gm_source_runs.proofs.answers.evaluate_text.Goals as goal

pub returns-in_err-graph-clause-halt : goal.returns-in_err-graph-clause-halt
returns-in_err-graph-clause-halt c =
    passed-on (λ h. IfAnswered h (λ a. IsUnready (format_of c.args.options.now.format) (shape_of (program_of c.args.program.now)) (inputs_of (program_of c.args.program.now)) c.args.words.now c.args.text.items a.text.items a.status))
    c.from_residual-in_err-graph.result c.in_err-graph.field-0.0 c.from_residual-in_err-graph.ensures.1
    (weaker _ _ c.in_err-graph.field-0.0 (λ a said. bad_text (rw (c.in_ok-shape.ensures, c.tree.ensures) at said)) c.in_err-graph.ensures.halt)

pub returns-in_err-args-clause-halt : goal.returns-in_err-args-clause-halt
returns-in_err-args-clause-halt c =
    let graph : IsGraphOf (format_of c.args.options.now.format) (shape_of (program_of c.args.program.now)) c.args.text.items c.in_ok-graph.graph = rw (c.in_ok-shape.ensures, c.tree.ensures) at c.in_ok-graph.ensures.graph in
    passed-on (λ h. IfAnswered h (λ a. IsUnready (format_of c.args.options.now.format) (shape_of (program_of c.args.program.now)) (inputs_of (program_of c.args.program.now)) c.args.words.now c.args.text.items a.text.items a.status))
    c.from_residual-in_err-args.result c.in_err-args.field-0.0 c.from_residual-in_err-args.ensures.1
    (weaker _ _ c.in_err-args.field-0.0
    (λ a said. bad_words c.in_ok-graph.graph graph (rw (c.deref.ensures.value, c.in_ok-inputs.ensures, c.tree-2.ensures) at said))
    c.in_err-args.ensures.halt)

pub returns-clause-outcome : goal.returns-clause-outcome
returns-clause-outcome c =
    let graph : IsGraphOf (format_of c.args.options.now.format) (shape_of (program_of c.args.program.now)) c.args.text.items c.in_ok-graph.graph = rw (c.in_ok-shape.ensures, c.tree.ensures) at c.in_ok-graph.ensures.graph in
    let values : values_bound (inputs_of (program_of c.args.program.now)) c.args.words.now c.in_ok-graph.graph.numbers ≡ Ok c.in_ok-args.args.items =
    rw (c.deref.ensures.value, c.in_ok-inputs.ensures, c.tree-2.ensures) at c.in_ok-args.ensures.values in
    record { graph = graph; args = c.in_ok-args.args.items; values = values; means = rw c.deref-2.ensures.value at c.in_ok-outcome.ensures }
