use Rattle.std.proofs.Common.{◌≡◌, ◌∙◌, refl}
use Rattle.gm_model.specs.declared.outcomes.Outcome.{Outcome}
use Rattle.gm_ast.specs.Program.{Program}
use Rattle.gm_ast.specs.Tree.{program_of}
use Rattle.gm_semantics.specs.Outcomes.{mean, outcome_of}
use Rattle.gm_semantics.specs.Statements as S
use Rattle.gm_loops.specs.declared.sights.Setting.{Setting}
use Rattle.gm_meaning.specs.declared.phases.Phase.{Phase}
use Rattle.gm_meaning.specs.Phases.{course_of, state_of}
use Rattle.gm_meaning.proofs.Going.{if-ok}
use Rattle.gm_meaning.proofs.Wholes.{first-fits, first_state, start-same, whole}
use Rattle.gm_meaning.proofs.evaluations.evaluate_tree.Goals as goal

pub statement-requires-clause-rest : goal.statement-requires-clause-rest
statement-requires-clause-rest c =
    let p : Program = program_of c.args.tree.now in
    let n = c.in_ok-variables.variables in
    c.new.ensures.rest _ (first-fits p c.args.graph.now n _ c.in_ok-store.store refl (c.as_slice-2.ensures.value ∙ c.in_ok-edges.ensures) refl c.requires.rows c.in_ok-store.ensures.shape) c.in_ok-store.ensures.undo

pub returns : goal.returns
returns c =
    let p : Program = program_of c.args.tree.now in
    let g = c.args.graph.now in
    let args = c.args.args.now in
    let n = c.in_ok-variables.variables in
    let f : Setting = record { graph = c.args.graph; in_rows = c.args.in_rows; declarations = c.as_slice.result; edges = c.as_slice-2.result; variables = n; bound = c.args.turns } in
    let course : S.Course = course_of c.in_ok-course.course (state_of f c.statement.new.self) in
    let begun : Phase = record { going = c.new.result; turns = 0 } in
    let first : state_of f begun ≡ first_state p g args =
    start-same p g args n c.as_slice-2.result.now c.in_ok-store.store c.new.result.store (c.as_slice-2.ensures.value ∙ c.in_ok-edges.ensures) c.new.ensures.store c.in_ok-store.ensures.store in
    let means : outcome_of p g c.args.turns course ≡ mean p g args c.args.turns =
    whole p g args c.args.turns c.as_slice.result.now (state_of f begun) course c.as_slice.ensures.value first c.in_ok-course.ensures.course in
    if-ok c.outcome.result (λ (o : Outcome). o ≡ outcome_of p g c.args.turns course) (λ (o : Outcome). o ≡ mean p g args c.args.turns)
    (λ o h. h ∙ means)
    c.outcome.ensures
