use Rattle.std.proofs.Common.{[], ◌∷◌, ap, ◌∙◌, map}
use Rattle.gm_ast.specs.Program.{sequence}
use Rattle.gm_ast.specs.Tree.{expr_of, stmt_of}
use Rattle.gm_bfs.specs.Searches.{backward, begin, forward}
use Rattle.gm_bfs.proofs.Added.{added-3, from-none}
use Rattle.gm_bfs.proofs.searches.search_both.Goals as goal

pub returns : goal.returns
returns c =
    let a = c.args in
    c.block.ensures
    ∙ ap sequence (from-none (map stmt_of c.new-stmts.result.items) _ _ (ap (map stmt_of) c.new-stmts.ensures.items)
    (added-3 (map stmt_of c.new-stmts.result.items) (map stmt_of c.add.new.stmts.items) (map stmt_of c.add-2.new.stmts.items) (map stmt_of c.add-3.new.stmts.items) _ _ _ _ _ _
    c.in_ok-add.ensures c.in_ok-begin.ensures c.in_ok-add-2.ensures c.in_ok-forward.ensures c.in_ok-add-3.ensures c.in_ok-backward.ensures))
    ∙ (λ i. sequence (
    begin (c.new.ensures i) a.fresh a.key a.search.root ∷
    forward (c.new.ensures i) a.fresh a.count a.key a.search.iterator (expr_of a.filter.now) (stmt_of a.body.now) ∷
    backward (c.new.ensures i) a.fresh a.count a.back_key a.search.iterator (expr_of a.back_filter.now) (stmt_of a.back.now) ∷ []))
