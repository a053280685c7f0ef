use Rattle.std.proofs.Common.{refl, true}
use Rattle.gm_base.specs.declared.rules.Rule.TheVariants.{T9}
use Rattle.gm_ast.specs.Judged.{then_answer}
use Rattle.gm_ast.specs.Program.{Defer}
use Rattle.gm_ast.specs.Statements.{goal as goal_of, fits_goal}
use Rattle.gm_ast.specs.SurfaceTree.{target_of, expr_of}
use Rattle.gm_ast.specs.Typing.{typed}
use Rattle.gm_types.proofs.Walks.{judges-both, judges-by}
use Rattle.std.proofs.lemmas.Result.{IfOk-from_err}
use Rattle.gm_types.proofs.names.Checker.deferred.Goals as goal

pub returns : goal.returns
returns c =
    judges-by (λ p. then_answer (fits_goal p.0.wanted T9 c.args.place p.1) (Defer c.args.self.now.key p.0.target))
    (judges-both (goal_of true (target_of c.args.target.now)) (typed (expr_of c.args.value.now)) c.goal-goal.ensures c.in_ok-part.ensures)
    c.in_ok-stmt.ensures.part c.in_ok-stmt.ensures.least refl refl

pub returns-in_err-part : goal.returns-in_err-part
returns-in_err-part c = IfOk-from_err _ _ c.from_residual.ensures.0

pub returns-in_err-stmt : goal.returns-in_err-stmt
returns-in_err-stmt c = IfOk-from_err _ _ c.from_residual-in_err-stmt.ensures.0
