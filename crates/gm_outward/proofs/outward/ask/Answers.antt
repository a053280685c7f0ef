use Rattle.std.proofs.Common.{◌≡◌, rules, sym, ap, ◌∙◌, subst}
use Rattle.std.specs.Prelude.{IfOk}
use Rattle.gm_ast.specs.Program.{Stmt, Foreach}
use Rattle.gm_ast.specs.declared.tree.Stmt as S
use Rattle.gm_ast.specs.declared.tree.Stmt.{the_lemmas}
use Rattle.gm_ast.specs.Tree.{expr_of, stmt_of}
use Rattle.gm_outward.specs.Outward.{asked_loop}
use Rattle.gm_flip.proofs.Trees.{stmt_of-Block}
use Rattle.gm_outward.proofs.Trees.{loop-sequence, asked-parts}
use Rattle.gm_outward.proofs.outward.ask.Goals as goal

pub returns-in-Block : goal.returns-in-Block
returns-in-Block c =
    let block = stmt_of-Block c.in-Block.stmts in
    let is : Foreach c.args.key c.args.place c.args.head (expr_of c.args.mask) (stmt_of (S.TheViews.Block c.in-Block.stmts)) ≡ asked_loop c.args.key c.args.place c.args.head (expr_of c.args.mask) (stmt_of c.args.body) =
    ap (Foreach c.args.key c.args.place c.args.head (expr_of c.args.mask)) block
    ∙ sym (loop-sequence c.args.key c.args.place c.args.head (expr_of c.args.mask) _)
    ∙ ap (asked_loop c.args.key c.args.place c.args.head (expr_of c.args.mask)) (sym block)
    ∙ ap (λ s. asked_loop c.args.key c.args.place c.args.head (expr_of c.args.mask) (stmt_of s)) (sym c.in-Block.is) in
    subst (λ (q : Stmt). IfOk c.loop_of-in-Block.result (λ r. stmt_of r ≡ q)) is c.loop_of-in-Block.ensures

pub returns-in_ok-mask-in-Foreach-2 : goal.returns-in_ok-mask-in-Foreach-2
returns-in_ok-mask-in-Foreach-2 c =
    let whole : stmt_of c.args.body ≡ Foreach c.in-Foreach.inner_key c.in-Foreach.inner_place c.in-Foreach.inner (expr_of c.in-Foreach.filter) (stmt_of c.into_inner.result) =
    ap stmt_of c.in-Foreach.is ∙ search (rules, the_lemmas, c.into_inner.ensures) in
    let asked : stmt_of c.in_ok-mask-in-Foreach-2.asked ≡ Foreach c.in-Foreach.inner_key c.in-Foreach.inner_place c.in-Foreach.inner (expr_of c.in_ok-mask-in-Foreach.filter) (stmt_of c.in_ok-mask-in-Foreach.body) =
    subst (λ r. IfOk r (λ s. stmt_of s ≡ Foreach c.in-Foreach.inner_key c.in-Foreach.inner_place c.in-Foreach.inner (expr_of c.in_ok-mask-in-Foreach.filter) (stmt_of c.in_ok-mask-in-Foreach.body)))
    c.in_ok-mask-in-Foreach-2.ensures.second c.loop_of.ensures in
    subst (λ (q : Stmt). IfOk c.loop_of-in-Foreach.result (λ r. stmt_of r ≡ q))
    (asked-parts c.args.key c.in-Foreach.inner_key c.args.place c.in-Foreach.inner_place c.args.head c.in-Foreach.inner (expr_of c.args.mask) (expr_of c.in-Foreach.filter)
    (expr_of c.in_ok-mask-in-Foreach-2.mask) (expr_of c.in_ok-mask-in-Foreach.filter) (stmt_of c.into_inner.result) (stmt_of c.in_ok-mask-in-Foreach.body) (stmt_of c.in_ok-mask-in-Foreach-2.asked) (stmt_of c.args.body)
    (ap expr_of c.in_ok-mask-in-Foreach-2.ensures.first ∙ c.in_ok-mask-in-Foreach.ensures.mask) c.in_ok-mask-in-Foreach.ensures.filter c.in_ok-mask-in-Foreach.ensures.body asked whole)
    c.loop_of-in-Foreach.ensures
