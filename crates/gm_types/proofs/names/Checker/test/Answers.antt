use Rattle.std.proofs.Common.{refl}
use Rattle.gm_base.specs.declared.rules.Rule.TheVariants.{T10}
use Rattle.gm_ast.specs.Judged.{refused_unless}
use Rattle.gm_ast.specs.Kinds.{is_flag}
use Rattle.gm_ast.specs.Typing.{start_of}
use Rattle.gm_ast.specs.SurfaceTree.{expr_of}
use Rattle.gm_types.proofs.Walks.{judges-by}
use Rattle.std.proofs.lemmas.Result.{IfOk-from_err}
use Rattle.gm_types.proofs.names.Checker.test.Goals as goal

pub returns : goal.returns
returns c =
    judges-by (λ p. refused_unless (is_flag p.kind) T10 (start_of (expr_of c.args.e.now)) p.core) c.in_ok-part.ensures
    (rw c.start_of.ensures at c.condition.ensures.part) (rw c.start_of.ensures at c.condition.ensures.least) refl refl

pub returns-in_err-part : goal.returns-in_err-part
returns-in_err-part c = IfOk-from_err _ _ c.from_residual.ensures.0
