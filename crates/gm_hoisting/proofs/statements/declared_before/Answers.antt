use Rattle.std.proofs.Common.{◌+◌, sym, ap, ◌∙◌, Some, option_map}
use Rattle.gm_ast.specs.Program.{Declare}
use Rattle.gm_ast.specs.Tree.{expr_of}
use Rattle.gm_hoisting.specs.Hoisting.{behind, body_out, count_body, folds_set}
use Rattle.gm_hoisting.proofs.statements.declared_before.Goals as goal

pub returns-in_ok-before-in-Some-clause-out : goal.returns-in_ok-before-in-Some-clause-out
returns-in_ok-before-in-Some-clause-out c =
    let k = c.args.key in
    let x = c.args.variable in
    let n = c.args.next.now in
    let e = expr_of c.in-Some.value in
    ap (λ l. behind l (Declare k x (Some (expr_of c.folds_before.new.e)))) c.in_ok-before-in-Some.ensures.before
    ∙ ap (λ d. behind (folds_set n k e) (Declare k x (Some d))) c.in_ok-before-in-Some.ensures.told ∙ sym (ap (λ o. body_out n (Declare k x (option_map expr_of o))) c.in-Some.is)

pub returns-in_ok-before-in-Some-clause-next : goal.returns-in_ok-before-in-Some-clause-next
returns-in_ok-before-in-Some-clause-next c =
    c.in_ok-before-in-Some.ensures.next ∙ sym (ap (λ o. c.args.next.now + count_body (Declare c.args.key c.args.variable (option_map expr_of o))) c.in-Some.is)
