use Rattle.std.proofs.Common.{◌≡◌, ◌<◌, ◌≤◌, refl, ap, sym, ◌∙◌, length, map, rules, arith}
use Rattle.std.specs.Prelude.{slice_index_or}
use Rattle.std.proofs.lemmas.List.{length-map}
use Rattle.gm_ast.specs.Program.{sequence}
use Rattle.gm_ast.specs.Tree.{stmt_of}
use Rattle.gm_dissect.specs.Loops.{each_loop}
use Rattle.gm_dissect.proofs.Trees.{each_loop-block}
use Rattle.gm_dissect.proofs.Partly.{partly-more, partly-all}
use Rattle.gm_parting.specs.Numbers.{numbered_loop}
use Rattle.gm_prepare.proofs.numbers.+phases.Goals as goal

pub number_phases-loop-i-init : goal.number_phases-loop-i-init
number_phases-loop-i-init t c = (search rules, refl)

pub number_phases-loop-i-preserved : goal.number_phases-loop-i-preserved
number_phases-loop-i-preserved t c =
    let at = c.loop-i in
    let f = each_loop numbered_loop in
    let here : at.i < length at.stmts.items = omega (arith, c.len-i-end.ensures) in
    let changed : stmt_of c.number_phase.new.s ≡ f (stmt_of (slice_index_or at.stmts.items at.i c.index_mut.result.now)) = c.in_ok-number_phase.ensures ∙ ap (λ s. f (stmt_of s)) c.index_mut.ensures.value in
    (search rules, partly-more stmt_of f c.args.stmts.now.items at.stmts.items at.i c.index_mut.result.now c.number_phase.new.s at.invariant.1 here changed)

pub number_phases-returns : goal.number_phases-returns
number_phases-returns t c =
    let at = c.loop-i in
    let f = numbered_loop in
    let stmts = map stmt_of c.args.stmts.now.items in
    let end : length stmts ≤ at.i = omega (arith, c.len-i-end.ensures, length-map c.args.stmts.now.items stmt_of) in
    ap sequence (at.invariant.1 ∙ partly-all (each_loop f) stmts at.i end) ∙ sym (each_loop-block f stmts)

pub number_part-returns : goal.number_part-returns
number_part-returns t c = c.in_ok-number_phase.ensures ∙ ap (λ s. each_loop numbered_loop (stmt_of s)) c.deref_mut.ensures.value
