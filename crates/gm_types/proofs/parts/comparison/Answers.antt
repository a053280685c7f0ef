use Rattle.std.proofs.Common.{◌≡◌, ◌++◌, ap, ◌∙◌}
use Rattle.gm_value.specs.declared.values.VType.TheVariants.{Flag}
use Rattle.gm_ast.specs.declared.kinds.Kind.TheVariants.{Of}
use Rattle.gm_ast.specs.Kinds as Kinds
use Rattle.gm_ast.specs.Program as Program
use Rattle.gm_ast.specs.Program.{Expr}
use Rattle.gm_ast.specs.Tree.{expr_of}
use Rattle.gm_ast.specs.Typing.{paired, compared_as, large_of}
use Rattle.gm_types.specs.Parts.{part_of}
use Rattle.gm_types.proofs.Pairs.{none_either, then_more}
use Rattle.std.proofs.lemmas.Result.{IfOk-from_err}
use Rattle.gm_types.proofs.parts.comparison.Goals as goal

pub returns-in_err-large-clause-part : goal.returns-in_err-large-clause-part
returns-in_err-large-clause-part c = IfOk-from_err _ _ c.from_residual.ensures.0

pub returns-in_err-large-clause-least : goal.returns-in_err-large-clause-least
returns-in_err-large-clause-least c = IfOk-from_err _ _ c.from_residual.ensures.0

pub returns-in_err-binary-clause-part : goal.returns-in_err-binary-clause-part
returns-in_err-binary-clause-part c = IfOk-from_err _ _ c.from_residual-in_err-binary.ensures.0

pub returns-in_err-binary-clause-least : goal.returns-in_err-binary-clause-least
returns-in_err-binary-clause-least c = IfOk-from_err _ _ c.from_residual-in_err-binary.ensures.0

pub returns-in-None-clause-part : goal.returns-in-None-clause-part
returns-in-None-clause-part c =
    let kind = compared_as c.args.kind (large_of c.args.kind (c.args.a.large.items ++ c.args.b.large.items)) in
    let common : c.compared_as-common.result ≡ kind = c.compared_as-common.ensures ∙ ap (compared_as c.args.kind) (c.deref.ensures.value ∙ c.in_ok-large.ensures) in
    none_either (paired c.args.place kind (part_of c.args.a) (part_of c.args.b)) (λ p. Program.Binary c.args.op c.args.place p.0 p.1) _
    (rw common at (rw c.in-None.is at c.in_ok-binary.ensures.part))

pub returns-in-None-clause-least : goal.returns-in-None-clause-least
returns-in-None-clause-least c =
    let common = c.compared_as-common.ensures ∙ ap (compared_as c.args.kind) (c.deref.ensures.value ∙ c.in_ok-large.ensures) in
    rw common at c.in_ok-binary.ensures.least

pub returns-clause-part : goal.returns-clause-part
returns-clause-part c =
    let kind = compared_as c.args.kind (large_of c.args.kind (c.args.a.large.items ++ c.args.b.large.items)) in
    let common : c.compared_as-common.result ≡ kind = c.compared_as-common.ensures ∙ ap (compared_as c.args.kind) (c.deref.ensures.value ∙ c.in_ok-large.ensures) in
    rw c.new.ensures.items
    (then_more (paired c.args.place kind (part_of c.args.a) (part_of c.args.b)) (λ p. Program.Binary c.args.op c.args.place p.0 p.1) (λ (e : Expr). Kinds.part_of (Of Flag) e) (expr_of c.in-Some.core)
    (rw common at (rw c.in-Some.is at c.in_ok-binary.ensures.part)))

pub returns-clause-least : goal.returns-clause-least
returns-clause-least c =
    let common = c.compared_as-common.ensures ∙ ap (compared_as c.args.kind) (c.deref.ensures.value ∙ c.in_ok-large.ensures) in
    rw common at c.in_ok-binary.ensures.least
