use Rattle.std.proofs.Common.{◌<◌, length, arith, refl, rules, ap, sym, ◌∙◌, map}
use Rattle.std.specs.Prelude.{box_value}
use Rattle.gm_ast.specs.declared.tree.Stmt.{the_lemmas}
use Rattle.gm_ast.specs.Program.{sequence}
use Rattle.gm_ast.specs.Tree.{expr_of, stmt_of}
use Rattle.gm_bfs.specs.Searches.{by_levels, inner_loop}
use Rattle.gm_bfs.proofs.InPlaceTrees.{on-ok, inside-stmt, changed-If, levels-Foreach}
use Rattle.gm_bfs.proofs.InPlace.{done-none, done-next, done-all, left-none, left-next, written-back}
use Rattle.gm_bfs.proofs.Sequences.{by_levels-sequence, map-twice}
use Rattle.gm_bfs.proofs.readings.+levels.Goals as goal

pub levels_among-loop-stmt-init : goal.levels_among-loop-stmt-init
levels_among-loop-stmt-init t c = (done-none stmt_of (by_levels c.args.fresh c.args.marks.now) c.deref_mut-stmt-items.result.now, left-none c.deref_mut-stmt-items.result.now)

pub levels_among-loop-stmt-preserved : goal.levels_among-loop-stmt-preserved
levels_among-loop-stmt-preserved t c =
    let at = c.loop-stmt in
    let inside : at.stmt-index < length at.stmt-items = omega arith in (
      done-next stmt_of (by_levels c.args.fresh c.args.marks.now) c.deref_mut-stmt-items.result.now at.stmt-index at.stmt-items c.by_levels.new.s c.stmt-item.result inside c.in_ok-by_levels.ensures at.invariant.0,
      left-next c.deref_mut-stmt-items.result.now at.stmt-index at.stmt-items c.by_levels.new.s at.invariant.1,
    )

pub levels_among-returns : goal.levels_among-returns
levels_among-returns t c =
    let at = c.loop-stmt in
    let level = by_levels c.args.fresh c.args.marks.now in
    ap (λ xs. sequence (map stmt_of xs)) (written-back c.args.stmts.now.len at.stmt-items _ (omega arith))
    ∙ ap sequence (done-all stmt_of level c.deref_mut-stmt-items.result.now at.stmt-index at.stmt-items (omega arith) at.invariant.0)
    ∙ ap (λ xs. sequence (map level (map stmt_of xs))) c.deref_mut-stmt-items.ensures.value
    ∙ sym (by_levels-sequence c.args.fresh c.args.marks.now stmt_of c.args.stmts.now.items ∙ ap sequence (map-twice level stmt_of c.args.stmts.now.items))

pub by_levels-returns-in_ok-by_levels-in-If : goal.by_levels-returns-in_ok-by_levels-in-If
by_levels-returns-in_ok-by_levels-in-If t c =
    let at = c.in-If in
    let level = by_levels c.args.fresh c.args.marks.now in
    let yes = c.deref_mut.ensures.value ∙ ap box_value at.yes-is in
    let no = c.deref_mut-in-If.ensures.value ∙ ap box_value at.no-is in
    on-ok c.by_levels-in-If.result c.by_levels-in-If.ensures (λ r. changed-If level (λ k e a b. refl) c.args.s.now _ at.key at.test at.yes at.no c.by_levels.new.s c.by_levels-in-If.new.s
    at.is (rw at.is (search (rules, the_lemmas))) (inside-stmt level at.yes _ _ yes c.in_ok-by_levels-in-If.ensures) (inside-stmt level at.no _ _ no r))

pub by_levels-returns-in-Foreach : goal.by_levels-returns-in-Foreach
by_levels-returns-in-Foreach t c =
    let at = c.in-Foreach in
    let inside = c.deref_mut-in-Foreach.ensures.value ∙ ap box_value at.body-is in
    let loop = inner_loop c.args.fresh c.args.marks.now in
    on-ok c.inner_loop.result c.inner_loop.ensures (λ r. levels-Foreach c.args.fresh c.args.marks.now c.args.s.now _ at.key at.place at.head c.inner_loop.new.head at.filter c.inner_loop.new.filter at.body c.inner_loop.new.body c.deref_mut-in-Foreach.result.now
    at.is (rw at.is (search (rules, the_lemmas))) inside
    (λ k p. r k p ∙ (λ i. loop k p (at.head-is i) (expr_of (at.filter-is i)) (stmt_of c.deref_mut-in-Foreach.result.now) (at.head-is i).domain)))
