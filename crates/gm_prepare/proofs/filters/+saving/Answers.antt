use Rattle.std.proofs.Common.{◌≡◌, ◌<◌, ◌≤◌, refl, ap, sym, ◌∙◌, length, map, rules, arith}
use Rattle.std.specs.Prelude.{slice_index_or, option_map}
use Rattle.std.proofs.lemmas.List.{length-map}
use Rattle.gm_ast.specs.Program.{Foreach, sequence}
use Rattle.gm_ast.specs.Tree.{expr_of, stmt_of}
use Rattle.gm_dissect.specs.Loops.{each_loop}
use Rattle.gm_trees.specs.Places.{after}
use Rattle.gm_dissect.proofs.InPlace.{left, stmt_of-Foreach, foreach-is}
use Rattle.gm_dissect.proofs.Trees.{each_loop-block}
use Rattle.gm_dissect.proofs.Partly.{partly-more, partly-all}
use Rattle.gm_parting.specs.Filters.{filtered_loop}
use Rattle.gm_prepare.proofs.filters.+saving.Goals as goal

pub save_phases-loop-i-init : goal.save_phases-loop-i-init
save_phases-loop-i-init t c = (search rules, refl)

pub save_phases-loop-i-preserved : goal.save_phases-loop-i-preserved
save_phases-loop-i-preserved t c =
    let at = c.loop-i in
    let f = each_loop (filtered_loop c.args.declarations.now c.args.property) in
    let here : at.i < length at.stmts.items = omega (arith, c.len-i-end.ensures) in
    let changed : stmt_of c.save.new.s ≡ f (stmt_of (slice_index_or at.stmts.items at.i c.index_mut.result.now)) = c.in_ok-save.ensures ∙ ap (λ s. f (stmt_of s)) c.index_mut.ensures.value in
    (search rules, partly-more stmt_of f c.args.stmts.now.items at.stmts.items at.i c.index_mut.result.now c.save.new.s at.invariant.1 here changed)

pub save_phases-returns : goal.save_phases-returns
save_phases-returns t c =
    let at = c.loop-i in
    let f = filtered_loop c.args.declarations.now c.args.property in
    let stmts = map stmt_of c.args.stmts.now.items in
    let end : length stmts ≤ at.i = omega (arith, c.len-i-end.ensures, length-map c.args.stmts.now.items stmt_of) in
    ap sequence (at.invariant.1 ∙ partly-all (each_loop f) stmts at.i end) ∙ sym (each_loop-block f stmts)

pub save_part-returns : goal.save_part-returns
save_part-returns t c = c.in_ok-save.ensures ∙ ap (λ s. each_loop (filtered_loop c.args.declarations.now c.args.property) (stmt_of s)) c.deref_mut.ensures.value

pub save-returns-in_ok-put_after-in-Foreach : goal.save-returns-in_ok-put_after-in-Foreach
save-returns-in_ok-put_after-in-Foreach t c =
    let at = c.in-Foreach in
    c.in_ok-put_after-in-Foreach.ensures ∙ ap (after (option_map stmt_of c.in_ok-first-in-Foreach.first)) (stmt_of-Foreach (left at.key-is) (left at.place-is) (left at.head-is) c.save_filter.new.filter (left at.body-is))
    ∙ ap (λ s. after (option_map stmt_of c.in_ok-first-in-Foreach.first) (Foreach (left at.key-is) (left at.place-is) (left at.head-is) (expr_of c.save_filter.new.filter) (stmt_of s))) (sym c.deref.ensures)
    ∙ c.in_ok-first-in-Foreach.ensures
    ∙ ap (λ s. filtered_loop c.args.declarations.now c.args.property (left at.key-is) (left at.place-is) (left at.head-is) (expr_of (left at.filter-is)) (stmt_of s)) c.deref.ensures
    ∙ sym (ap (each_loop (filtered_loop c.args.declarations.now c.args.property)) (foreach-is at.key-is at.place-is at.head-is at.filter-is at.body-is at.is))
