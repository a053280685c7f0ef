use Rattle.std.proofs.Common.{◌∙◌, ◌++◌, ap, sym, map, append-nil}
use Rattle.gm_ast.specs.Program.{sequence}
use Rattle.gm_ast.specs.Tree.{stmt_of}
use Rattle.gm_types.proofs.CoreTrees.{stmt_of-Block}
use Rattle.gm_types.proofs.Items.{nothing-left}
use Rattle.gm_types.proofs.Plain.{declared_plain, plain-sequence}
use Rattle.std.proofs.lemmas.Result.{IfOk-from_err}
use Rattle.gm_types.proofs.declarations.plain_declarations.Goals as goal

pub returns : goal.returns
returns c =
    let ns = c.args.indices.now in
    let k = c.args.key in
    let ss = map stmt_of c.loop-variable.stmts.items in
    stmt_of-Block c.loop-variable.stmts
    ∙ ap sequence (sym (append-nil ss) ∙ ap (λ xs. ss ++ map (declared_plain k) xs) (sym (nothing-left ns c.loop-variable.variable-index c.loop-variable-test.false)) ∙ c.loop-variable.invariant)
    ∙ sym (plain-sequence k ns)

pub returns-in_err-push : goal.returns-in_err-push
returns-in_err-push c = IfOk-from_err _ _ c.from_residual.ensures.0
