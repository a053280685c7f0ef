use Rattle.std.proofs.Common.{◌≡◌, ◌<◌, ◌≤◌, refl, ap, sym, ◌∙◌, length, map, rules, arith}
use Rattle.std.specs.Prelude.{slice_index_or}
use Rattle.std.proofs.lemmas.List.{length-map}
use Rattle.gm_ast.specs.Program.{sequence}
use Rattle.gm_ast.specs.Tree.{stmt_of}
use Rattle.gm_dissect.specs.Loops.{each_loop}
use Rattle.gm_dissect.proofs.Trees.{each_loop-block}
use Rattle.gm_dissect.proofs.Partly.{partly-more, partly-all}
use Rattle.gm_parting.specs.Apart.{apart_loop}
use Rattle.gm_dissecting.proofs.apart.+loops.Goals as goal

pub stand_phases-loop-i-init : goal.stand_phases-loop-i-init
stand_phases-loop-i-init t c = (search rules, refl)

pub stand_phases-loop-i-preserved : goal.stand_phases-loop-i-preserved
stand_phases-loop-i-preserved t c =
    let at = c.loop-i in
    let f = each_loop (apart_loop c.args.declarations.now c.args.first) in
    let here : at.i < length at.stmts.items = omega (arith, c.len-i-end.ensures) in
    let changed : stmt_of c.stand_phase.new.s ≡ f (stmt_of (slice_index_or at.stmts.items at.i c.index_mut.result.now)) = c.in_ok-stand_phase.ensures ∙ ap (λ s. f (stmt_of s)) c.index_mut.ensures.value in
    (search rules, partly-more stmt_of f c.args.stmts.now.items at.stmts.items at.i c.index_mut.result.now c.stand_phase.new.s at.invariant.1 here changed)

pub stand_phases-returns : goal.stand_phases-returns
stand_phases-returns t c =
    let at = c.loop-i in
    let f = (apart_loop c.args.declarations.now c.args.first) in
    let stmts = map stmt_of c.args.stmts.now.items in
    let end : length stmts ≤ at.i = omega (arith, c.len-i-end.ensures, length-map c.args.stmts.now.items stmt_of) in
    ap sequence (at.invariant.1 ∙ partly-all (each_loop f) stmts at.i end) ∙ sym (each_loop-block f stmts)

pub stand_part-returns : goal.stand_part-returns
stand_part-returns t c = c.in_ok-stand_phase.ensures ∙ ap (λ s. each_loop (apart_loop c.args.declarations.now c.args.first) (stmt_of s)) c.deref_mut.ensures.value
