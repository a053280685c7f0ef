use Rattle.std.proofs.Common.{map, refl}
use Rattle.gm_ast.specs.SurfaceTree.{target_of}
use Rattle.gm_ast.specs.Statements.{apart_from_first}
use Rattle.gm_types.proofs.Together.{judges-noted}
use Rattle.std.proofs.lemmas.Result.{IfOk-from_err}
use Rattle.gm_types.proofs.names.Checker.goals_together.Goals as goal

pub returns : goal.returns
returns c = judges-noted (apart_from_first (map target_of c.args.targets.now)) c.in_ok-goals.ensures c.in_ok-note_apart.ensures refl refl

pub returns-in_err-goals : goal.returns-in_err-goals
returns-in_err-goals c = IfOk-from_err _ _ c.from_residual.ensures.0
