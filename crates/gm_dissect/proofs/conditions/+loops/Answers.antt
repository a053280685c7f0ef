use Rattle.std.proofs.Common.{◌≡◌, ◌<◌, ◌≤◌, refl, ap, sym, ◌∙◌, length, map, rules, arith}
use Rattle.std.specs.Prelude.{slice_index_or}
use Rattle.std.proofs.lemmas.List.{length-map}
use Rattle.gm_ast.specs.Program.{sequence}
use Rattle.gm_ast.specs.Tree.{stmt_of}
use Rattle.gm_dissect.specs.Conditions.{local_of, saved_loop}
use Rattle.gm_dissect.specs.Loops.{each_loop}
use Rattle.gm_dissect.proofs.Trees.{each_loop-block}
use Rattle.gm_dissect.proofs.Partly.{partly-more, partly-all}
use Rattle.gm_dissect.proofs.conditions.+loops.Goals as goal

pub save_phases-loop-i-init : goal.save_phases-loop-i-init
save_phases-loop-i-init t c = (search rules, refl)

pub save_phases-loop-i-preserved : goal.save_phases-loop-i-preserved
save_phases-loop-i-preserved t c =
    let at = c.loop-i in
    let f = each_loop (saved_loop (local_of c.args.first c.args.numbers.now.items)) in
    let here : at.i < length at.stmts.items = omega (arith, c.len-i-end.ensures) in
    let changed : stmt_of c.save.new.s ≡ f (stmt_of (slice_index_or at.stmts.items at.i c.index_mut.result.now)) = c.in_ok-save.ensures ∙ ap (λ s. f (stmt_of s)) c.index_mut.ensures.value in
    (search rules, partly-more stmt_of f c.args.stmts.now.items at.stmts.items at.i c.index_mut.result.now c.save.new.s at.invariant.1 here changed)

pub save_phases-returns : goal.save_phases-returns
save_phases-returns t c =
    let at = c.loop-i in
    let stmts = map stmt_of c.args.stmts.now.items in
    let end : length stmts ≤ at.i = omega (arith, c.len-i-end.ensures, length-map c.args.stmts.now.items stmt_of) in
    ap sequence (at.invariant.1 ∙ partly-all (each_loop (saved_loop (local_of c.args.first c.args.numbers.now.items))) stmts at.i end) ∙ sym (each_loop-block (saved_loop (local_of c.args.first c.args.numbers.now.items)) stmts)

pub save_part-returns : goal.save_part-returns
save_part-returns t c = c.in_ok-save.ensures ∙ ap (λ s. each_loop (saved_loop (local_of c.args.first c.args.numbers.now.items)) (stmt_of s)) c.deref_mut.ensures.value
