use Rattle.std.proofs.Common.{◌≡◌, [], ◌++◌, map, ap, ◌∙◌, rules}
use Rattle.gm_ast.specs.Program.{sequence}
use Rattle.gm_ast.specs.Tree.{stmt_of}
use Rattle.gm_cut.specs.Slices.{statements_of}
use Rattle.gm_dissect.proofs.Trees.{stmt_of-Block}
use Rattle.gm_slices.proofs.slicing.opened.Goals as goal

pub returns : goal.returns
returns c =
    let first = statements_of (stmt_of c.args.first) in
    let before : map stmt_of c.in_ok-last.before.items ≡ map stmt_of c.new.result.items ++ first = search rules in
    stmt_of-Block c.in_ok-stmts.stmts
    ∙ ap sequence
    (c.in_ok-stmts.ensures ∙ ap (λ l. l ++ statements_of (stmt_of c.in_ok-last.last)) (before ∙ ap (λ l. map stmt_of l ++ first) c.new.ensures.items)
    ∙ ap (λ s. first ++ statements_of (stmt_of s)) c.in_ok-last.ensures.first)
