use Rattle.std.proofs.Common.{◌≡◌, ◌<◌, ◌≤◌, refl, ap, sym, ◌∙◌, length, map, option_map, rules, arith}
use Rattle.std.specs.Prelude.{slice_index_or, box_value}
use Rattle.std.proofs.lemmas.List.{length-map}
use Rattle.gm_ast.specs.Program.{sequence}
use Rattle.gm_ast.specs.Tree.{expr_of, stmt_of}
use Rattle.gm_desugar.specs.Conditions.{hoisted}
use Rattle.gm_trees.specs.Places.{after}
use Rattle.gm_desugar.proofs.InPlace.{hoisted-sequence, for-changed, if-changed, while-changed, do-changed}
use Rattle.gm_desugar.proofs.Trees.{left, stmt_of-For, stmt_of-If, stmt_of-While, stmt_of-Do, for-is, if-is, while-is, do-is}
use Rattle.gm_desugar.proofs.Partly.{partly-more, partly-all}
use Rattle.gm_desugar.proofs.conditions.+hoisting.Goals as goal

pub hoist_block-loop-i-init : goal.hoist_block-loop-i-init
hoist_block-loop-i-init t c = (search rules, refl)

pub hoist_block-loop-i-preserved : goal.hoist_block-loop-i-preserved
hoist_block-loop-i-preserved t c =
    let at = c.loop-i in
    let here : at.i < length at.stmts.items = omega (arith, c.len-i-end.ensures) in
    let changed : stmt_of c.hoist.new.s ≡ hoisted c.args.variable (stmt_of (slice_index_or at.stmts.items at.i c.index_mut.result.now)) = c.in_ok-hoist.ensures ∙ ap (λ s. hoisted c.args.variable (stmt_of s)) c.index_mut.ensures.value in
    (search rules, partly-more stmt_of (hoisted c.args.variable) c.args.stmts.now.items at.stmts.items at.i c.index_mut.result.now c.hoist.new.s at.invariant.1 here changed)

pub hoist_block-returns : goal.hoist_block-returns
hoist_block-returns t c =
    let at = c.loop-i in
    let stmts = map stmt_of c.args.stmts.now.items in
    let end : length stmts ≤ at.i = omega (arith, c.len-i-end.ensures, length-map c.args.stmts.now.items stmt_of) in
    ap sequence (at.invariant.1 ∙ partly-all (hoisted c.args.variable) stmts at.i end) ∙ sym (hoisted-sequence c.args.variable stmts)

pub hoist_inner-returns : goal.hoist_inner-returns
hoist_inner-returns t c = c.in_ok-hoist.ensures ∙ ap (λ s. hoisted c.args.variable (stmt_of s)) c.deref_mut.ensures.value

pub hoist-returns-in_ok-filter_turns-in-For : goal.hoist-returns-in_ok-filter_turns-in-For
hoist-returns-in_ok-filter_turns-in-For t c =
    let at = c.in-For in
    let v = c.args.variable in
    let k = left at.key-is in
    let place = left at._place-is in
    let head = left at._head-is in
    let e = expr_of (left at.filter-is) in
    let s = stmt_of (box_value (left at.body-is)) in
    stmt_of-For _ _ _ _ _ ∙ for-changed v k place head e (expr_of c.filter_turns.new.filter) s (stmt_of c.hoist_inner.new.s.value) (stmt_of c.filter_turns.new.body.value) (c.in_ok-filter_turns-in-For.ensures place head) c.in_ok-hoist_inner-in-For.ensures
    ∙ sym (ap (hoisted v) (for-is at.key-is at._place-is at._head-is at.filter-is at.body-is at.is))

pub hoist-returns-in_ok-put_after-in-If : goal.hoist-returns-in_ok-put_after-in-If
hoist-returns-in_ok-put_after-in-If t c =
    let at = c.in-If in
    let v = c.args.variable in
    let k = left at.key-is in
    let e = expr_of (left at.test-is) in
    let a = stmt_of (box_value (left at.yes-is)) in
    let b = stmt_of (box_value (left at.no-is)) in
    let first = option_map stmt_of c.set_unless-set.result in
    c.in_ok-put_after-in-If.ensures ∙ ap (after first) (stmt_of-If _ _ _ _)
    ∙ if-changed v k e (expr_of c.set_unless-set.new.test) a b (stmt_of c.hoist_inner-in-If.new.s.value) (stmt_of c.hoist_inner-in-If-2.new.s.value) first c.set_unless-set.ensures.set c.set_unless-set.ensures.asked c.in_ok-hoist_inner-in-If.ensures c.in_ok-hoist_inner-in-If-2.ensures
    ∙ sym (ap (hoisted v) (if-is at.key-is at.test-is at.yes-is at.no-is at.is))

pub hoist-returns-in_ok-put_after-in-While : goal.hoist-returns-in_ok-put_after-in-While
hoist-returns-in_ok-put_after-in-While t c =
    let at = c.in-While in
    let v = c.args.variable in
    let k = left at.key-is in
    let place = left at._place-is in
    let e = expr_of (left at.test-is) in
    let s = stmt_of (box_value (left at.body-is)) in
    let first = option_map stmt_of c.in_ok-set-in-While.set in
    c.in_ok-put_after-in-While.ensures ∙ ap (after first) (stmt_of-While _ _ _ _)
    ∙ while-changed v k place e (expr_of c.set_while.new.test) s (stmt_of c.hoist_inner-in-While.new.s.value) (stmt_of c.set_while.new.body.value) first (c.in_ok-set-in-While.ensures place) c.in_ok-hoist_inner-in-While.ensures
    ∙ sym (ap (hoisted v) (while-is at.key-is at._place-is at.test-is at.body-is at.is))

pub hoist-returns-in_ok-end_turn-in-Do : goal.hoist-returns-in_ok-end_turn-in-Do
hoist-returns-in_ok-end_turn-in-Do t c =
    let at = c.in-Do in
    let v = c.args.variable in
    let k = left at.key-is in
    let place = left at._place-is in
    let e = expr_of (left at.test-is) in
    let s = stmt_of (box_value (left at.body-is)) in
    let last = option_map stmt_of c.set_unless-set-in-Do.result in
    stmt_of-Do _ _ _ _ ∙ do-changed v k place e (expr_of c.set_unless-set-in-Do.new.test) s (stmt_of c.hoist_inner-in-Do.new.s.value) (stmt_of c.end_turn.new.body.value) last c.in_ok-end_turn-in-Do.ensures c.set_unless-set-in-Do.ensures.set c.set_unless-set-in-Do.ensures.asked c.in_ok-hoist_inner-in-Do.ensures
    ∙ sym (ap (hoisted v) (do-is at.key-is at._place-is at.body-is at.test-is at.is))
