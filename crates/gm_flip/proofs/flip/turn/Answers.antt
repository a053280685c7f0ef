use Rattle.std.proofs.Common.{◌≡◌, sym, ap, ◌∙◌, subst}
use Rattle.std.specs.Prelude.{IfOk}
use Rattle.gm_ast.specs.Program.{Stmt, Foreach}
use Rattle.gm_ast.specs.declared.tree.Stmt as S
use Rattle.gm_ast.specs.Tree.{expr_of, stmt_of}
use Rattle.gm_flip.specs.Flipped.{turned}
use Rattle.gm_flip.proofs.Trees.{stmt_of-Block, turned_sequence}
use Rattle.gm_flip.proofs.flip.turn.Goals as goal

pub returns-in-Block : goal.returns-in-Block
returns-in-Block c =
    let block = stmt_of-Block c.in-Block.stmts in
    let is : Foreach c.args.key c.args.place c.args.head (expr_of c.args.mask) (stmt_of (S.TheViews.Block c.in-Block.stmts)) ≡ turned c.args.key c.args.place c.args.head (expr_of c.args.mask) (stmt_of c.args.body) =
    ap (Foreach c.args.key c.args.place c.args.head (expr_of c.args.mask)) block
    ∙ sym (turned_sequence c.args.key c.args.place c.args.head (expr_of c.args.mask) _)
    ∙ ap (turned c.args.key c.args.place c.args.head (expr_of c.args.mask)) (sym block)
    ∙ ap (λ s. turned c.args.key c.args.place c.args.head (expr_of c.args.mask) (stmt_of s)) (sym c.in-Block.is) in
    subst (λ (q : Stmt). IfOk c.loop_of-in-Block.result (λ r. stmt_of r ≡ q)) is c.loop_of-in-Block.ensures
