use Rattle.gm_input.proofs.Answering.{weaker}
use Rattle.gm_input.proofs.Naming.{passed-on}
use Rattle.gm_input.specs.Halts.{IfAnswered}
use Rattle.gm_input.specs.Answers.{format_of}
use Rattle.gm_source_runs.specs.Answers.{IsUnready, bad_text, bad_words}
use Rattle.gm_run.proofs.compiling.make_ready.Goals as goal

pub returns-in_err-graph-clause-halt : goal.returns-in_err-graph-clause-halt
returns-in_err-graph-clause-halt c =
    passed-on (λ h. IfAnswered h (λ a. IsUnready (format_of c.args.options.now.format) c.args.interface.now.shape c.args.interface.now.inputs.items c.args.words.now c.args.text.items a.text.items a.status))
    c.from_residual.result c.in_err-graph.field-0.0 c.from_residual.ensures.1
    (weaker _ _ c.in_err-graph.field-0.0 (λ a said. bad_text said) c.in_err-graph.ensures.halt)

pub returns-in_err-args-clause-halt : goal.returns-in_err-args-clause-halt
returns-in_err-args-clause-halt c =
    passed-on (λ h. IfAnswered h (λ a. IsUnready (format_of c.args.options.now.format) c.args.interface.now.shape c.args.interface.now.inputs.items c.args.words.now c.args.text.items a.text.items a.status))
    c.from_residual-in_err-args.result c.in_err-args.field-0.0 c.from_residual-in_err-args.ensures.1
    (weaker _ _ c.in_err-args.field-0.0 (λ a said. bad_words c.in_ok-graph.graph c.in_ok-graph.ensures.graph (rw c.deref.ensures.value at said)) c.in_err-args.ensures.halt)

pub returns-clause-graph : goal.returns-clause-graph
returns-clause-graph c = c.in_ok-graph.ensures.graph

pub returns-clause-columns : goal.returns-clause-columns
returns-clause-columns c = c.in_ok-graph.ensures.columns.of_edges

pub returns-clause-values : goal.returns-clause-values
returns-clause-values c = rw c.deref.ensures.value at c.in_ok-args.ensures.values

pub returns-clause-known : goal.returns-clause-known
returns-clause-known c = c.node_count-nodes.ensures.known
