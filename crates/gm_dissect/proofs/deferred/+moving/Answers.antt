use Rattle.std.proofs.Common.{◌≡◌, ◌<◌, ◌≤◌, refl, ap, sym, ◌∙◌, length, map, rules, arith}
use Rattle.std.specs.Prelude.{if◌then◌else◌, slice_index_or, box_value}
use Rattle.std.proofs.lemmas.List.{length-map}
use Rattle.gm_ast.specs.Program.{Foreach, sequence}
use Rattle.gm_ast.specs.Tree.{expr_of, stmt_of}
use Rattle.gm_loop_laws.specs.Deferring.{undeferred}
use Rattle.gm_dissect.specs.Deferred.{defers, undeferred_loop}
use Rattle.gm_dissect.specs.Loops.{each_loop}
use Rattle.gm_dissect.proofs.Trees.{each_loop-block}
use Rattle.gm_dissect.proofs.InPlace.{left, stmt_of-Foreach, foreach-is, loop-changed}
use Rattle.gm_dissect.proofs.Partly.{partly-more, partly-all}
use Rattle.gm_dissect.proofs.deferred.+moving.Goals as goal

pub undefer_phases-loop-i-init : goal.undefer_phases-loop-i-init
undefer_phases-loop-i-init t c = (search rules, refl)

pub undefer_phases-loop-i-preserved : goal.undefer_phases-loop-i-preserved
undefer_phases-loop-i-preserved t c =
    let at = c.loop-i in
    let f = each_loop (undeferred_loop c.args.moved.property c.args.moved.copy) in
    let here : at.i < length at.stmts.items = omega (arith, c.len-i-end.ensures) in
    let changed : stmt_of c.undefer.new.s ≡ f (stmt_of (slice_index_or at.stmts.items at.i c.index_mut.result.now)) = c.in_ok-undefer.ensures ∙ ap (λ s. f (stmt_of s)) c.index_mut.ensures.value in
    (search rules, partly-more stmt_of f c.args.stmts.now.items at.stmts.items at.i c.index_mut.result.now c.undefer.new.s at.invariant.1 here changed)

pub undefer_phases-returns : goal.undefer_phases-returns
undefer_phases-returns t c =
    let at = c.loop-i in
    let stmts = map stmt_of c.args.stmts.now.items in
    let end : length stmts ≤ at.i = omega (arith, c.len-i-end.ensures, length-map c.args.stmts.now.items stmt_of) in
    ap sequence (at.invariant.1 ∙ partly-all (each_loop (undeferred_loop c.args.moved.property c.args.moved.copy)) stmts at.i end) ∙ sym (each_loop-block (undeferred_loop c.args.moved.property c.args.moved.copy) stmts)

pub undefer_part-returns : goal.undefer_part-returns
undefer_part-returns t c = c.in_ok-undefer.ensures ∙ ap (λ s. each_loop (undeferred_loop c.args.moved.property c.args.moved.copy) (stmt_of s)) c.deref_mut.ensures.value

pub undefer-returns-in_ok-put_between-in-Foreach : goal.undefer-returns-in_ok-put_between-in-Foreach
undefer-returns-in_ok-put_between-in-Foreach t c =
    let at = c.in-Foreach in
    let p = c.args.moved.property in
    let q = c.args.moved.copy in
    let k = left at._key-is in
    let place = left at.place-is in
    let head = left at.head-is in
    let e = expr_of (left at._filter-is) in
    let s = stmt_of (box_value (left at.body-is)) in
    let b = stmt_of c.undefer_where-moves.new.body.value in
    let m = c.undefer_where-moves.result in
    let moves : m ≡ defers p s = search rules in
    let changed : b ≡ (if defers p s then undeferred p q s else s) = search rules in
    loop-changed {o = p} {r = q} {n = m} c.in_ok-put_between-in-Foreach.ensures (stmt_of-Foreach _ _ _ _ _) p q k place head e s m refl refl refl (search rules) (search rules) (search rules) (search rules) (search rules) (search rules) (search rules) moves changed
    ∙ sym (ap (each_loop (undeferred_loop p q)) (foreach-is at._key-is at.place-is at.head-is at._filter-is at.body-is at.is))
