use Rattle.std.proofs.Common.{◌≡◌, [], ◌∷◌, ◌++◌, ap, ◌∙◌, map}
use Rattle.gm_ast.specs.Program as P
use Rattle.gm_ast.specs.Program.{sequence}
use Rattle.gm_ast.specs.Tree.{expr_of, stmt_of}
use Rattle.gm_bfs.specs.Copies.{copied}
use Rattle.gm_bfs.specs.Searches.{activate, copy, level_before, next_level, visit, where_asked}
use Rattle.gm_bfs.proofs.Added.{turn-of}
use Rattle.gm_bfs.proofs.searches.back_turn.Goals as goal

pub returns : goal.returns
returns c =
    let s = c.args.around.site in
    let f = c.args.around.fresh in
    let test = expr_of c.args.filter.now in
    let body = stmt_of c.args.body.now in
    let marks : c.in_ok-marks.marks ≡ copied c.args.around.count body = c.in_ok-marks.ensures in
    c.block.ensures
    ∙ ap sequence (turn-of (map stmt_of c.new-stmts.result.items) (map stmt_of c.start_back_turn.new.stmts.items) (map stmt_of c.add.new.stmts.items) (map stmt_of c.add-2.new.stmts.items) _ _ _ _
    (ap (map stmt_of) c.new-stmts.ensures.items) c.in_ok-start_back_turn.ensures c.in_ok-add.ensures c.in_ok-visits.ensures
    (c.in_ok-add-2.ensures ∙ ap (λ (a : P.Stmt). map stmt_of c.add.new.stmts.items ++ (a ∷ [])) c.in_ok-level_before.ensures))
    ∙ (λ i. sequence (
    where_asked (c.asks_down-below.ensures i) (next_level s f) ∷ where_asked (c.asks_up-up.ensures i) (level_before s f f.up) ∷ activate s f ∷ copy s f (marks i) ∷
    visit s f (marks i) c.args.key c.args.around.iterator test body ∷ level_before s f f.current ∷ []))
