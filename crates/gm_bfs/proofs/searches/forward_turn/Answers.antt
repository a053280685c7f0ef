use Rattle.std.proofs.Common.{◌≡◌, [], ◌∷◌, ap, ◌∙◌, map, false}
use Rattle.gm_value.specs.declared.values.Value.TheVariants.{Flag}
use Rattle.gm_ast.specs.Program.{Const, sequence}
use Rattle.gm_ast.specs.Tree.{expr_of, stmt_of}
use Rattle.gm_bfs.specs.Copies.{copied}
use Rattle.gm_bfs.specs.Searches.{activate, copy, first_where, level_before, look, next_level, reach, scalar, set, visit, where_asked}
use Rattle.gm_bfs.proofs.Added.{turn-of}
use Rattle.gm_bfs.proofs.searches.forward_turn.Goals as goal

pub returns : goal.returns
returns c =
    let s = c.args.around.site in
    let f = c.args.around.fresh in
    let test = expr_of c.args.filter.now in
    let body = stmt_of c.args.body.now in
    let marks : c.in_ok-marks.marks ≡ copied c.args.around.count body = c.in_ok-marks.ensures in
    c.block.ensures
    ∙ ap sequence (turn-of (map stmt_of c.new-stmts.result.items) (map stmt_of c.start_turn.new.stmts.items) (map stmt_of c.add.new.stmts.items) (map stmt_of c.end_turn.new.stmts.items) _ _ _ _
    (ap (map stmt_of) c.new-stmts.ensures.items) c.in_ok-start_turn.ensures c.in_ok-add.ensures c.in_ok-visits.ensures c.in_ok-end_turn.ensures)
    ∙ (λ i. sequence (
    next_level s f ∷ where_asked (c.asks_up-up.ensures i) (level_before s f f.up) ∷ set s f.found (Const (Flag false)) ∷ activate s f ∷ copy s f (marks i) ∷
    first_where (c.asks_down-below.ensures i) (reach s f) (visit s f (marks i) c.args.key c.args.around.iterator test body) ∷
    look s f ∷ set s f.more (scalar s f.found) ∷ set s f.current (scalar s f.down) ∷ []))
