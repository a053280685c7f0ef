use Rattle.std.proofs.Common.{◌++◌}
use Rattle.gm_ast.specs.Kinds as Kinds
use Rattle.gm_ast.specs.Program as Program
use Rattle.gm_ast.specs.Program.{Expr}
use Rattle.gm_ast.specs.Tree.{expr_of}
use Rattle.gm_ast.specs.Typing.{paired, large_of}
use Rattle.gm_types.specs.Parts.{part_of}
use Rattle.gm_types.proofs.Pairs.{none_either, then_more}
use Rattle.std.proofs.lemmas.Result.{IfOk-from_err}
use Rattle.gm_types.proofs.parts.arithmetic.Goals as goal

pub returns-in_err-large-clause-part : goal.returns-in_err-large-clause-part
returns-in_err-large-clause-part c = IfOk-from_err _ _ c.from_residual.ensures.0

pub returns-in_err-large-clause-least : goal.returns-in_err-large-clause-least
returns-in_err-large-clause-least c = IfOk-from_err _ _ c.from_residual.ensures.0

pub returns-in_err-binary-clause-part : goal.returns-in_err-binary-clause-part
returns-in_err-binary-clause-part c = IfOk-from_err _ _ c.from_residual-in_err-binary.ensures.0

pub returns-in_err-binary-clause-least : goal.returns-in_err-binary-clause-least
returns-in_err-binary-clause-least c = IfOk-from_err _ _ c.from_residual-in_err-binary.ensures.0

pub returns-in-None-clause-part : goal.returns-in-None-clause-part
returns-in-None-clause-part c =
    none_either (paired c.args.place c.args.kind (part_of c.args.a) (part_of c.args.b)) (λ p. Program.Binary c.args.op c.args.place p.0 p.1) _ (rw c.in-None.is at c.in_ok-binary.ensures.part)

pub returns-in-None-clause-least : goal.returns-in-None-clause-least
returns-in-None-clause-least c = c.in_ok-binary.ensures.least

pub returns-in-Some-clause-part : goal.returns-in-Some-clause-part
returns-in-Some-clause-part c =
    let made : Expr → Kinds.Part = λ e. record { kind = c.args.kind; core = e; large = large_of c.args.kind (c.args.a.large.items ++ c.args.b.large.items) } in
    rw c.in_ok-large.ensures
    (then_more (paired c.args.place c.args.kind (part_of c.args.a) (part_of c.args.b)) (λ p. Program.Binary c.args.op c.args.place p.0 p.1) made (expr_of c.in-Some.core)
    (rw c.in-Some.is at c.in_ok-binary.ensures.part))

pub returns-in-Some-clause-least : goal.returns-in-Some-clause-least
returns-in-Some-clause-least c = c.in_ok-binary.ensures.least
