use Rattle.std.proofs.Common.{refl}
use Rattle.gm_base.specs.declared.rules.Rule.TheVariants.{T9}
use Rattle.gm_ast.specs.Judged.{then_answer}
use Rattle.gm_ast.specs.Kinds.{fitted}
use Rattle.gm_ast.specs.Program.{Group}
use Rattle.gm_ast.specs.Statements.{group_target, in_group}
use Rattle.gm_ast.specs.SurfaceTree.{name_of, expr_of}
use Rattle.gm_ast.specs.Typing.{typed}
use Rattle.gm_types.proofs.Walks.{judges-both, judges-by}
use Rattle.std.proofs.lemmas.Result.{IfOk-from_err}
use Rattle.gm_types.proofs.names.Checker.grouped.Goals as goal

pub returns : goal.returns
returns c =
    let x = name_of c.args.graph.now in
    judges-by (λ ps. then_answer (fitted ps.0.1.1 T9 c.args.place ps.1) (Group c.args.self.now.key x.place ps.0.0 ps.0.1.0))
    (judges-both (group_target x (name_of c.args.property.now)) (in_group (typed (expr_of c.args.value.now))) c.group_target-goal.ensures c.in_ok-part.ensures)
    c.in_ok-stmt.ensures.part c.in_ok-stmt.ensures.least refl refl

pub returns-in_err-part : goal.returns-in_err-part
returns-in_err-part c = IfOk-from_err _ _ c.from_residual.ensures.0

pub returns-in_err-stmt : goal.returns-in_err-stmt
returns-in_err-stmt c = IfOk-from_err _ _ c.from_residual-in_err-stmt.ensures.0
