use Rattle.std.proofs.Common.{◌≡◌, ◌∙◌, length, refl, ap, sym}
use Rattle.std.specs.Prelude.{Ok}
use Rattle.std.proofs.lemmas.Result.{IfOk-weaker}
use Rattle.gm_words.specs.Arguments.{values_bound}
use Rattle.gm_image.specs.Views.{program}
use Rattle.gm_machine.specs.Machine.{machine}
use Rattle.gm_input.specs.Answers.{IsGraphOf, bad_argument, bad_graph, format_of, good_graph, ran}
use Rattle.gm_input.proofs.Answering.{said_on, weaker}
use Rattle.gm_exec.specs.Answers.{IsTextAnswer}
use Rattle.gm_exec.specs.Runs.{IsUntold, untold, in_part}
use Rattle.gm_exec.specs.Programs.{inputs_of, shape_of}
use Rattle.gm_exec.proofs.Telling.{ran-told}
use Rattle.gm_exec.proofs.runs.run_text.Goals as goal

pub returns-in_err-graph-clause-answer : goal.returns-in_err-graph-clause-answer
returns-in_err-graph-clause-answer g c =
    said_on (λ a. IsTextAnswer (program c.args.image.now) c.args.words.now c.args.options.now _ c.args.text.items a.text.items a.status)
    c.from_residual-in_err-graph.result c.in_err-graph.field-0.0 c.from_residual-in_err-graph.ensures.1
    (weaker _ _ c.in_err-graph.field-0.0 (λ a said. bad_graph (rw (c.in_ok-shape.ensures, c.image.ensures.same) at said)) c.in_err-graph.ensures.halt)

pub returns-in_err-graph-clause-untold : goal.returns-in_err-graph-clause-untold
returns-in_err-graph-clause-untold g c =
    said_on (λ a. IsUntold a.status _ _)
    c.from_residual-in_err-graph.result c.in_err-graph.field-0.0 c.from_residual-in_err-graph.ensures.1
    (weaker _ _ c.in_err-graph.field-0.0 (λ a said. λ _. refl) c.in_err-graph.ensures.halt)

pub returns-in_err-args-clause-answer : goal.returns-in_err-args-clause-answer
returns-in_err-args-clause-answer g c =
    let graph : IsGraphOf (format_of c.args.options.now.format) (shape_of (program c.args.image.now)) c.args.text.items c.in_ok-graph.graph = rw (c.in_ok-shape.ensures, c.image.ensures.same) at c.in_ok-graph.ensures.graph in
    said_on (λ a. IsTextAnswer (program c.args.image.now) c.args.words.now c.args.options.now _ c.args.text.items a.text.items a.status)
    c.from_residual-in_err-args.result c.in_err-args.field-0.0 c.from_residual-in_err-args.ensures.1
    (weaker _ _ c.in_err-args.field-0.0
    (λ a said. good_graph c.in_ok-graph.graph graph (bad_argument (rw (c.deref.ensures.value, c.in_ok-inputs.ensures, c.image-2.ensures.same) at said)))
    c.in_err-args.ensures.halt)

pub returns-in_err-args-clause-untold : goal.returns-in_err-args-clause-untold
returns-in_err-args-clause-untold g c =
    said_on (λ a. IsUntold a.status _ _)
    c.from_residual-in_err-args.result c.in_err-args.field-0.0 c.from_residual-in_err-args.ensures.1
    (weaker _ _ c.in_err-args.field-0.0 (λ a said. λ _. refl) c.in_err-args.ensures.halt)

pub run_with-requires-clause-columns : goal.run_with-requires-clause-columns
run_with-requires-clause-columns g c = λ _ _.
    sym (c.in_ok-graph.ensures.columns.of_edges ∙ ap (λ s. length s.edges) c.in_ok-shape.ensures ∙ ap (λ i. length (shape_of (program i)).edges) c.image.ensures.same)

pub returns-clause-answer : goal.returns-clause-answer
returns-clause-answer g c =
    let graph : IsGraphOf (format_of c.args.options.now.format) (shape_of (program c.args.image.now)) c.args.text.items c.in_ok-graph.graph = rw (c.in_ok-shape.ensures, c.image.ensures.same) at c.in_ok-graph.ensures.graph in
    let values : values_bound (inputs_of (program c.args.image.now)) c.args.words.now c.in_ok-graph.graph.numbers ≡ Ok c.in_ok-args.args.items =
    rw (c.deref.ensures.value, c.in_ok-inputs.ensures, c.image-2.ensures.same) at c.in_ok-args.ensures.values in
    good_graph c.in_ok-graph.graph graph (ran c.in_ok-args.args.items values (rw c.deref-2.ensures.value at c.in_ok-run_with.ensures.ran))

pub returns-in_err-shape-clause-part : goal.returns-in_err-shape-clause-part
returns-in_err-shape-clause-part g c = untold refl

pub returns-in_err-graph-clause-part : goal.returns-in_err-graph-clause-part
returns-in_err-graph-clause-part g c = untold refl

pub returns-in_err-inputs-clause-part : goal.returns-in_err-inputs-clause-part
returns-in_err-inputs-clause-part g c = untold refl

pub returns-in_err-args-clause-part : goal.returns-in_err-args-clause-part
returns-in_err-args-clause-part g c = untold refl

pub returns-clause-part : goal.returns-clause-part
returns-clause-part g c =
    let graph : IsGraphOf (format_of c.args.options.now.format) (shape_of (program c.args.image.now)) c.args.text.items c.in_ok-graph.graph = rw (c.in_ok-shape.ensures, c.image.ensures.same) at c.in_ok-graph.ensures.graph in
    let values : values_bound (inputs_of (program c.args.image.now)) c.args.words.now c.in_ok-graph.graph.numbers ≡ Ok c.in_ok-args.args.items =
    rw (c.deref.ensures.value, c.in_ok-inputs.ensures, c.image-2.ensures.same) at c.in_ok-args.ensures.values in
    in_part c.in_ok-graph.graph graph c.in_ok-args.args.items values (rw c.deref-2.ensures.value at c.in_ok-run_with.ensures.part)

pub returns-in_err-run_with-clause-part : goal.returns-in_err-run_with-clause-part
returns-in_err-run_with-clause-part g c =
    let graph : IsGraphOf (format_of c.args.options.now.format) (shape_of (program c.args.image.now)) c.args.text.items c.in_ok-graph.graph = rw (c.in_ok-shape.ensures, c.image.ensures.same) at c.in_ok-graph.ensures.graph in
    let values : values_bound (inputs_of (program c.args.image.now)) c.args.words.now c.in_ok-graph.graph.numbers ≡ Ok c.in_ok-args.args.items =
    rw (c.deref.ensures.value, c.in_ok-inputs.ensures, c.image-2.ensures.same) at c.in_ok-args.ensures.values in
    in_part c.in_ok-graph.graph graph c.in_ok-args.args.items values (rw c.deref-2.ensures.value at c.run_with.ensures.part)
