use Rattle.std.proofs.Common.{◌≡◌, ◌∙◌, ap, sym, map, option_map, Option}
use Rattle.std.specs.Prelude.{Some, OnOk, IfOk, IfErr}
use Rattle.std.proofs.lemmas.Result.{IfOk-from_err, IfOk-weaker, IfErr-weaker}
use Rattle.gm_ast.specs.Procedures.{nothing_known, elaborated}
use Rattle.gm_ast.specs.Surface.{sequence}
use Rattle.gm_ast.specs.SurfaceTree as Spelled
use Rattle.gm_ast.specs.SurfaceTree.{procedure_of}
use Rattle.gm_ast.specs.Tree.{stmt_of, program_of}
use Rattle.gm_types.proofs.Blocks.{follows-block}
use Rattle.gm_types.proofs.Stated.{judges-ended}
use Rattle.gm_types.proofs.Wholes.{Whole, whole, least-whole, program-whole, nothing-least, stop-whole}
use Rattle.gm_types.proofs.procedures.typed_tree.Goals as goal

-- the procedure is judged whole
judged : (c : goal.After-finished) → Whole (procedure_of c.args.procedure.now) c.end.new.self (option_map stmt_of c.in_ok-body.body)
judged c =
    let p = c.args.procedure.now in
    let body = map Spelled.stmt_of p.body.items in
    let a = c.in_ok-around in
    whole (procedure_of p) (c.new-checker.ensures.names ∙ ap nothing_known c.result_of.ensures) c.new-checker.ensures.empty c.new-checker.ensures.least
    (rw c.deref.ensures.value at c.in_ok-parameters.ensures) (rw c.deref-2.ensures.value at c.in_ok-parameters-2.ensures) c.note_head.ensures
    (judges-ended (sequence body) a.around a.ensures.around a.ensures.begun (follows-block body c.in_ok-body.ensures) c.end.ensures.known c.end.ensures.rest)

pub returns-clause-accepted : goal.returns-clause-accepted
returns-clause-accepted c =
    IfOk-weaker c.finished.result _ _ (λ tree h. program-whole (procedure_of c.args.procedure.now) (stmt_of tree.body) (program_of tree) (judged c) h.1 h.2) c.finished.ensures.accepted

pub returns-clause-clean : goal.returns-clause-clean
returns-clause-clean c =
    IfOk-weaker c.finished.result _ _ (λ tree h. nothing-least _ (least-whole (judged c) ∙ h.0)) c.finished.ensures.accepted

pub returns-clause-refused : goal.returns-clause-refused
returns-clause-refused c = IfErr-weaker c.finished.result _ _ (stop-whole (judged c)) c.finished.ensures.refused

pub returns-in_err-parameters-clause-accepted : goal.returns-in_err-parameters-clause-accepted
returns-in_err-parameters-clause-accepted c = IfOk-from_err _ _ c.from_residual.ensures.0

pub returns-in_err-parameters-clause-clean : goal.returns-in_err-parameters-clause-clean
returns-in_err-parameters-clause-clean c = IfOk-from_err _ _ c.from_residual.ensures.0

pub returns-in_err-parameters-2-clause-accepted : goal.returns-in_err-parameters-2-clause-accepted
returns-in_err-parameters-2-clause-accepted c = IfOk-from_err _ _ c.from_residual-in_err-parameters-2.ensures.0

pub returns-in_err-parameters-2-clause-clean : goal.returns-in_err-parameters-2-clause-clean
returns-in_err-parameters-2-clause-clean c = IfOk-from_err _ _ c.from_residual-in_err-parameters-2.ensures.0

pub returns-in_err-around-clause-accepted : goal.returns-in_err-around-clause-accepted
returns-in_err-around-clause-accepted c = IfOk-from_err _ _ c.from_residual-in_err-around.ensures.0

pub returns-in_err-around-clause-clean : goal.returns-in_err-around-clause-clean
returns-in_err-around-clause-clean c = IfOk-from_err _ _ c.from_residual-in_err-around.ensures.0

pub returns-in_err-body-clause-accepted : goal.returns-in_err-body-clause-accepted
returns-in_err-body-clause-accepted c = IfOk-from_err _ _ c.from_residual-in_err-body.ensures.0

pub returns-in_err-body-clause-clean : goal.returns-in_err-body-clause-clean
returns-in_err-body-clause-clean c = IfOk-from_err _ _ c.from_residual-in_err-body.ensures.0
