use Rattle.std.proofs.Common.{map, refl}
use Rattle.gm_ast.specs.SurfaceTree.{target_of, expr_of}
use Rattle.gm_ast.specs.Statements.{goals_together, typed_all, combined}
use Rattle.gm_types.proofs.Walks.{judges-both, judges-by}
use Rattle.std.proofs.lemmas.Result.{IfOk-from_err}
use Rattle.gm_types.proofs.names.Checker.reduced.Goals as goal

pub returns : goal.returns
returns c =
    judges-by (combined c.args.self.now.key c.args.place c.args.reduce)
    (judges-both (goals_together (map target_of c.args.targets.now)) (typed_all (map expr_of c.args.values.now)) c.in_ok-goals.ensures c.in_ok-parts.ensures)
    c.in_ok-stmt.ensures.part c.in_ok-stmt.ensures.least refl refl

pub returns-in_err-goals : goal.returns-in_err-goals
returns-in_err-goals c = IfOk-from_err _ _ c.from_residual.ensures.0

pub returns-in_err-parts : goal.returns-in_err-parts
returns-in_err-parts c = IfOk-from_err _ _ c.from_residual-in_err-parts.ensures.0

pub returns-in_err-stmt : goal.returns-in_err-stmt
returns-in_err-stmt c = IfOk-from_err _ _ c.from_residual-in_err-stmt.ensures.0
