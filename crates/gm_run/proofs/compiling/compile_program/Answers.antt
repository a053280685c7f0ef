use Rattle.std.proofs.Common.{◌≡◌, ◌∙◌, ap, subst, sym}
use Rattle.gm_ast.specs.Tree.{program_of}
use Rattle.gm_compile.specs.Compiled.{Represents}
use Rattle.gm_image.specs.Views.{program}
use Rattle.gm_source_runs.specs.Programs.{inputs_of, output_declarations, shape_of}
use Rattle.gm_run.proofs.CompiledLemmas.{runs_as}
use Rattle.gm_run.proofs.compiling.compile_program.Goals as goal

pub returns-in-Some-clause-runs : goal.returns-in-Some-clause-runs
returns-in-Some-clause-runs c = λ text stands.
    let shape : c.in_ok-interface.interface.shape ≡ shape_of (program_of c.args.work) = rw c.tree.ensures at c.in_ok-interface.ensures.shape in
    let inputs : c.in_ok-interface.interface.inputs.items ≡ inputs_of (program_of c.args.work) = rw c.tree.ensures at c.in_ok-interface.ensures.inputs in
    let outputs : c.in_ok-interface.interface.outputs.items ≡ output_declarations (program_of c.args.work) = rw c.tree.ensures at c.in_ok-interface.ensures.outputs in
    runs_as text (program_of c.args.work) c.with_image.result stands
    (c.with_image.ensures.nodes ∙ ap (λ s. s.nodes) shape)
    (c.with_image.ensures.edges ∙ ap (λ s. s.edges) shape)
    (c.with_image.ensures.inputs ∙ inputs)
    (c.with_image.ensures.outputs ∙ outputs)
    (subst (λ i. Represents (program i) (program_of c.args.work)) (sym c.with_image.ensures.image) ((rw c.in-Some.is at c.in_ok-made.ensures.stands) text stands))

pub returns-in-Some-clause-represents : goal.returns-in-Some-clause-represents
returns-in-Some-clause-represents c = λ text stands.
    subst (λ i. Represents (program i) (program_of c.args.work)) (sym c.with_image.ensures.image) ((rw c.in-Some.is at c.in_ok-made.ensures.stands) text stands)
