use Rattle.std.proofs.Common.{refl}
use Rattle.gm_ast.specs.Statements.{returned}
use Rattle.gm_types.proofs.Walks.{judges-by}
use Rattle.std.proofs.lemmas.Result.{IfOk-from_err}
use Rattle.gm_types.proofs.names.Checker.returned.Goals as goal

pub returns-in_ok-stmt-in-Some : goal.returns-in_ok-stmt-in-Some
returns-in_ok-stmt-in-Some c =
    rw c.in-Some.is
    (judges-by (returned c.args.self.now.key c.args.place c.args.self.now.result) c.in_ok-part-in-Some.ensures c.in_ok-stmt-in-Some.ensures.part c.in_ok-stmt-in-Some.ensures.least refl refl)

pub returns-in_err-part-in-Some : goal.returns-in_err-part-in-Some
returns-in_err-part-in-Some c = IfOk-from_err _ _ c.from_residual.ensures.0

pub returns-in_err-stmt-in-Some : goal.returns-in_err-stmt-in-Some
returns-in_err-stmt-in-Some c = IfOk-from_err _ _ c.from_residual-in_err-stmt-in-Some.ensures.0
