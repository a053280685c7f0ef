use Rattle.std.proofs.Common.{refl}
use Rattle.gm_ast.specs.Typing.{typed}
use Rattle.gm_ast.specs.Statements.{declared_typed, declared_value, sort_of, vtype_of}
use Rattle.gm_ast.specs.SurfaceTree.{name_of, type_of, expr_of}
use Rattle.gm_types.proofs.Walks.{judges-both, judges-by}
use Rattle.std.proofs.lemmas.Result.{IfOk-from_err}
use Rattle.gm_types.proofs.names.Checker.declare_value.Goals as goal

pub returns-clause-judged : goal.returns-clause-judged
returns-clause-judged c =
    let t = type_of c.args.vtype.now in
    let x = name_of c.args.name.now in
    judges-by (declared_value c.args.self.now.key x c.args.equals (vtype_of t) (sort_of t))
    (judges-both (declared_typed t x) (typed (expr_of c.args.value.now)) c.in_ok-index.ensures c.in_ok-part.ensures)
    (rw (c.vtype_of.ensures, c.sort_of.ensures) at c.in_ok-stmt.ensures.part) (rw (c.vtype_of.ensures, c.sort_of.ensures) at c.in_ok-stmt.ensures.least) refl refl

pub returns-in_err-index-clause-judged : goal.returns-in_err-index-clause-judged
returns-in_err-index-clause-judged c = IfOk-from_err _ _ c.from_residual.ensures.0

pub returns-in_err-index-clause-index : goal.returns-in_err-index-clause-index
returns-in_err-index-clause-index c = IfOk-from_err _ _ c.from_residual.ensures.0

pub returns-in_err-part-clause-judged : goal.returns-in_err-part-clause-judged
returns-in_err-part-clause-judged c = IfOk-from_err _ _ c.from_residual-in_err-part.ensures.0

pub returns-in_err-part-clause-index : goal.returns-in_err-part-clause-index
returns-in_err-part-clause-index c = IfOk-from_err _ _ c.from_residual-in_err-part.ensures.0

pub returns-in_err-stmt-clause-judged : goal.returns-in_err-stmt-clause-judged
returns-in_err-stmt-clause-judged c = IfOk-from_err _ _ c.from_residual-in_err-stmt.ensures.0

pub returns-in_err-stmt-clause-index : goal.returns-in_err-stmt-clause-index
returns-in_err-stmt-clause-index c = IfOk-from_err _ _ c.from_residual-in_err-stmt.ensures.0
