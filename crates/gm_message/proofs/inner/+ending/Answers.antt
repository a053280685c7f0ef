use Rattle.std.proofs.Common.{sym, ap, ◌∙◌, map}
use Rattle.gm_ast.specs.Tree.{stmt_of}
use Rattle.gm_lowering.specs.Plans.{gives_last}
use Rattle.gm_message.proofs.Lasts.{continued_sequence}
use Rattle.gm_message.proofs.Trees.{stmt_of-Block}
use Rattle.gm_message.proofs.inner.+ending.Goals as goal

pub gives_last-returns-in-Block : goal.gives_last-returns-in-Block
gives_last-returns-in-Block t c =
    let ds = c.args.declarations.now in
    let i = c.args.iterator in
    c.ends_giving.ensures ∙ continued_sequence ds i (map stmt_of c.in-Block.stmts.items)
    ∙ sym (ap (λ s. gives_last ds i (stmt_of s)) c.in-Block.is ∙ ap (gives_last ds i) (stmt_of-Block c.in-Block.stmts))
