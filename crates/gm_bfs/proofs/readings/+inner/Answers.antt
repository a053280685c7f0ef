use Rattle.std.proofs.Common.{◌≡◌, ◌<◌, length, arith, rules, ap, sym, ◌∙◌, map}
use Rattle.gm_ast.specs.declared.tree.Stmt.{the_lemmas}
use Rattle.gm_ast.specs.Program.{sequence}
use Rattle.std.specs.Prelude.{box_value}
use Rattle.gm_ast.specs.Tree.{expr_of, stmt_of}
use Rattle.gm_bfs.specs.Copies.{reading, inner_reading}
use Rattle.gm_bfs.proofs.InPlaceTrees.{on-ok, inside-stmt, inner-If}
use Rattle.gm_bfs.proofs.InPlace.{done-none, done-next, done-all, left-none, left-next, written-back}
use Rattle.gm_bfs.proofs.Sequences.{inner_reading-sequence, map-twice}
use Rattle.gm_bfs.proofs.readings.+inner.Goals as goal

pub read_block-loop-stmt-init : goal.read_block-loop-stmt-init
read_block-loop-stmt-init t c = (done-none stmt_of (inner_reading c.args.fresh c.args.marks.now c.args.iterator) c.deref_mut-stmt-items.result.now, left-none c.deref_mut-stmt-items.result.now)

pub read_block-loop-stmt-preserved : goal.read_block-loop-stmt-preserved
read_block-loop-stmt-preserved t c =
    let at = c.loop-stmt in
    let inside : at.stmt-index < length at.stmt-items = omega arith in (
      done-next stmt_of (inner_reading c.args.fresh c.args.marks.now c.args.iterator) c.deref_mut-stmt-items.result.now at.stmt-index at.stmt-items c.read_inner.new.s c.stmt-item.result
          inside c.in_ok-read_inner.ensures at.invariant.0,
      left-next c.deref_mut-stmt-items.result.now at.stmt-index at.stmt-items c.read_inner.new.s at.invariant.1,
    )

pub read_block-returns : goal.read_block-returns
read_block-returns t c =
    let at = c.loop-stmt in
    let read = inner_reading c.args.fresh c.args.marks.now c.args.iterator in
    ap (λ xs. sequence (map stmt_of xs)) (written-back c.args.stmts.now.len at.stmt-items _ (omega arith))
    ∙ ap sequence (done-all stmt_of read c.deref_mut-stmt-items.result.now at.stmt-index at.stmt-items (omega arith) at.invariant.0)
    ∙ ap (λ xs. sequence (map read (map stmt_of xs))) c.deref_mut-stmt-items.ensures.value
    ∙ sym (inner_reading-sequence c.args.fresh c.args.marks.now c.args.iterator stmt_of c.args.stmts.now.items ∙ ap sequence (map-twice read stmt_of c.args.stmts.now.items))

pub read_inner-returns-in_ok-read_inner-in-If : goal.read_inner-returns-in_ok-read_inner-in-If
read_inner-returns-in_ok-read_inner-in-If t c =
    let at = c.in-If in
    let read = inner_reading c.args.fresh c.args.marks.now c.args.iterator in
    let test : expr_of c.read_copies-in-If.new.e ≡ reading c.args.fresh c.args.marks.now c.args.iterator (expr_of at.test) = c.in_ok-read_copies-in-If.ensures ∙ ap (λ e. reading c.args.fresh c.args.marks.now c.args.iterator (expr_of e)) at.test-is in
    let yes = c.deref_mut.ensures.value ∙ ap box_value at.yes-is in
    let no = c.deref_mut-in-If.ensures.value ∙ ap box_value at.no-is in
    on-ok c.read_inner-in-If.result c.read_inner-in-If.ensures (λ r. inner-If c.args.fresh c.args.marks.now c.args.iterator c.args.s.now _ at.key at.test c.read_copies-in-If.new.e at.yes at.no c.read_inner.new.s c.read_inner-in-If.new.s
    at.is (rw at.is (search (rules, the_lemmas))) test (inside-stmt read at.yes _ _ yes c.in_ok-read_inner-in-If.ensures) (inside-stmt read at.no _ _ no r))
