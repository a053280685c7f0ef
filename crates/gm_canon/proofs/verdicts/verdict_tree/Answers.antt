use Rattle.gm_ast.specs.SurfaceTree.{procedure_of}
use Rattle.gm_ast.specs.Tree.{program_of}
use Rattle.gm_canon.specs.Verdict.{IsVerdictOnTree, TypesAs}
use Rattle.gm_canon.proofs.Phases.{passed-on, stop-by_types, stop-by_races, stop-by_form}
use Rattle.gm_canon.proofs.verdicts.verdict_tree.Goals as goal

pub returns-in_err-program-clause-refused : goal.returns-in_err-program-clause-refused
returns-in_err-program-clause-refused c =
    let tree = procedure_of c.args.procedure in
    passed-on (IsVerdictOnTree tree) c.from_residual.result c.in_err-program.field-0.0 c.from_residual.ensures.1
    (stop-by_types tree c.in_err-program.field-0.0 c.in_err-program.ensures.refused)

pub returns-in_err-races-clause-refused : goal.returns-in_err-races-clause-refused
returns-in_err-races-clause-refused c =
    let tree = procedure_of c.args.procedure in
    let typed : TypesAs tree (program_of c.in_ok-program.program) = record { clean = c.in_ok-program.ensures.clean; is = c.in_ok-program.ensures.accepted } in
    passed-on (IsVerdictOnTree tree) c.from_residual-in_err-races.result c.in_err-races.field-0.0 c.from_residual-in_err-races.ensures.1
    (stop-by_races tree (program_of c.in_ok-program.program) typed c.in_err-races.field-0.0 c.in_err-races.ensures.refused)

pub returns-in_err-checked-clause-refused : goal.returns-in_err-checked-clause-refused
returns-in_err-checked-clause-refused c =
    let tree = procedure_of c.args.procedure in
    let typed : TypesAs tree (program_of c.in_ok-program.program) = record { clean = c.in_ok-program.ensures.clean; is = c.in_ok-program.ensures.accepted } in
    passed-on (IsVerdictOnTree tree) c.from_residual-in_err-checked.result c.in_err-checked.field-0.0 c.from_residual-in_err-checked.ensures.1
    (stop-by_form tree (program_of c.in_ok-program.program) typed c.in_ok-races.ensures.accepted c.in_err-checked.field-0.0 c.in_err-checked.ensures.refused)

pub returns-clause-accepted : goal.returns-clause-accepted
returns-clause-accepted c =
    let typed : TypesAs (procedure_of c.args.procedure) (program_of c.in_ok-program.program) = record { clean = c.in_ok-program.ensures.clean; is = c.in_ok-program.ensures.accepted } in
    rw c.in_ok-checked.ensures.tree (record {
      typed = typed;
      race_free = c.in_ok-races.ensures.accepted;
      canonical = c.in_ok-checked.ensures.clean;
    })
