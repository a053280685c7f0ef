use Rattle.std.proofs.Common.{◌∙◌, ap}
use Rattle.std.specs.Prelude.{Some}
use Rattle.gm_base.specs.declared.rules.Rule.TheVariants.{T9}
use Rattle.gm_ast.specs.Program as P
use Rattle.gm_ast.specs.Kinds.{fitted}
use Rattle.gm_ast.specs.Tree.{expr_of}
use Rattle.gm_types.specs.Parts.{part_of}
use Rattle.gm_types.proofs.Answered.{ok_then}
use Rattle.gm_types.proofs.CoreTrees.{stmt_of-Declare}
use Rattle.std.proofs.lemmas.Result.{IfOk-from_err}
use Rattle.gm_types.proofs.declarations.declared_value_of.Goals as goal

pub returns-in-Some-clause-part : goal.returns-in-Some-clause-part
returns-in-Some-clause-part c =
    rw c.in-Scalar.is
    (ap Some (stmt_of-Declare c.args.key c.args.variable c.in-Some.value)
    ∙ ok_then (fitted c.args.vtype T9 c.args.place (part_of c.args.part)) (λ e. P.Declare c.args.key c.args.variable (Some e)) (expr_of c.in-Some.value)
    (rw c.in-Some.is at c.in_ok-fitted-in-Scalar.ensures.part))

pub returns-in_err-fitted-in-Scalar-clause-part : goal.returns-in_err-fitted-in-Scalar-clause-part
returns-in_err-fitted-in-Scalar-clause-part c = IfOk-from_err _ _ c.from_residual.ensures.0

pub returns-in_err-fitted-in-Scalar-clause-least : goal.returns-in_err-fitted-in-Scalar-clause-least
returns-in_err-fitted-in-Scalar-clause-least c = IfOk-from_err _ _ c.from_residual.ensures.0
