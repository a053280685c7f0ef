use Rattle.std.proofs.Common.{◌≡◌, ◌<◌, ◌≤◌, refl, ap, sym, ◌∙◌, length, map, option_map, rules, arith}
use Rattle.std.specs.Prelude.{slice_index_or, box_value}
use Rattle.std.proofs.lemmas.List.{length-map}
use Rattle.gm_ast.specs.Program.{sequence}
use Rattle.gm_ast.specs.Tree.{expr_of, stmt_of}
use Rattle.gm_dissect.specs.Conditions.{local_of, with_saved}
use Rattle.gm_trees.specs.Places.{after}
use Rattle.gm_dissect.proofs.InPlace.{left, stmt_of-If, if-is, if-saved}
use Rattle.gm_dissect.proofs.Trees.{with_saved-block}
use Rattle.gm_dissect.proofs.Partly.{partly-more, partly-all}
use Rattle.gm_dissect.proofs.conditions.+saving.Goals as goal

pub save_block-loop-i-init : goal.save_block-loop-i-init
save_block-loop-i-init t c = (search rules, refl)

pub save_block-loop-i-preserved : goal.save_block-loop-i-preserved
save_block-loop-i-preserved t c =
    let at = c.loop-i in
    let f = with_saved (local_of c.args.first c.args.numbers.now.items) c.args.place in
    let here : at.i < length at.stmts.items = omega (arith, c.len-i-end.ensures) in
    let changed : stmt_of c.save_body.new.s ≡ f (stmt_of (slice_index_or at.stmts.items at.i c.index_mut.result.now)) = c.in_ok-save_body.ensures ∙ ap (λ s. f (stmt_of s)) c.index_mut.ensures.value in
    (search rules, partly-more stmt_of f c.args.stmts.now.items at.stmts.items at.i c.index_mut.result.now c.save_body.new.s at.invariant.1 here changed)

pub save_block-returns : goal.save_block-returns
save_block-returns t c =
    let at = c.loop-i in
    let stmts = map stmt_of c.args.stmts.now.items in
    let end : length stmts ≤ at.i = omega (arith, c.len-i-end.ensures, length-map c.args.stmts.now.items stmt_of) in
    ap sequence (at.invariant.1 ∙ partly-all (with_saved (local_of c.args.first c.args.numbers.now.items) c.args.place) stmts at.i end) ∙ sym (with_saved-block (local_of c.args.first c.args.numbers.now.items) c.args.place stmts)

pub save_inner-returns : goal.save_inner-returns
save_inner-returns t c = c.in_ok-save_body.ensures ∙ ap (λ s. with_saved (local_of c.args.first c.args.numbers.now.items) c.args.place (stmt_of s)) c.deref_mut.ensures.value

pub save_body-returns-in_ok-put_after-in-If : goal.save_body-returns-in_ok-put_after-in-If
save_body-returns-in_ok-put_after-in-If t c =
    let at = c.in-If in
    let local = local_of c.args.first c.args.numbers.now.items in
    let place = c.args.place in
    let k = left at.key-is in
    let e = expr_of (left at.test-is) in
    let a = stmt_of (box_value (left at.yes-is)) in
    let b = stmt_of (box_value (left at.no-is)) in
    let x = stmt_of c.save_inner.new.s.value in
    let y = stmt_of c.save_inner-in-If.new.s.value in
    c.in_ok-put_after-in-If.ensures ∙ ap (after (option_map stmt_of c.save_test-saved.result)) (stmt_of-If _ _ _ _) ∙ c.save_test-saved.ensures x y
    ∙ if-saved local place k e a b x y c.local_of-local.result c.local_of-local.ensures c.in_ok-save_inner-in-If.ensures c.in_ok-save_inner-in-If-2.ensures
    ∙ sym (ap (with_saved local place) (if-is at.key-is at.test-is at.yes-is at.no-is at.is))
