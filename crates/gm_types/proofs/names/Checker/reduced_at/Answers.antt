use Rattle.std.proofs.Common.{map}
use Rattle.std.specs.Prelude.{option_map}
use Rattle.gm_ast.specs.Statements.{reduced, at_iterator}
use Rattle.gm_ast.specs.SurfaceTree.{name_of, target_of, expr_of}
use Rattle.gm_types.proofs.Blocks.{judges-made}
use Rattle.gm_types.proofs.Walks.{judges-both}
use Rattle.std.proofs.lemmas.Result.{IfOk-from_err}
use Rattle.gm_types.proofs.names.Checker.reduced_at.Goals as goal

pub returns : goal.returns
returns c =
    judges-made (λ p. p.0)
    (judges-both (reduced (map target_of c.args.targets.now) c.args.reduce c.args.place (map expr_of c.args.values.now)) (at_iterator (option_map name_of c.args.iterator.now)) c.in_ok-stmt.ensures c.at_iterator-enclosing.ensures)
    c.enclosed.ensures

pub returns-in_err-stmt : goal.returns-in_err-stmt
returns-in_err-stmt c = IfOk-from_err _ _ c.from_residual.ensures.0
