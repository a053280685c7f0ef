use Rattle.std.proofs.Common.{◌≡◌, ◌<◌, ◌≤◌, refl, ap, sym, ◌∙◌, length, map, rules, arith}
use Rattle.std.specs.Prelude.{slice_index_or}
use Rattle.std.proofs.lemmas.List.{length-map}
use Rattle.gm_ast.specs.Program.{sequence}
use Rattle.gm_ast.specs.Tree.{stmt_of}
use Rattle.gm_outward.specs.Outward.{asked_outward}
use Rattle.gm_flip.proofs.Partly.{partly-more, partly-all}
use Rattle.gm_outward.proofs.Trees.{asked-sequence}
use Rattle.gm_outward.proofs.outward.+asking.Goals as goal

pub ask_block-loop-i-init : goal.ask_block-loop-i-init
ask_block-loop-i-init t c = (search rules, refl)

pub ask_block-loop-i-preserved : goal.ask_block-loop-i-preserved
ask_block-loop-i-preserved t c =
    let at = c.loop-i in
    let here : at.i < length at.stmts.items = omega (arith, c.len-i-end.ensures) in
    let changed : stmt_of c.ask_phase.new.s ≡ asked_outward (stmt_of (slice_index_or at.stmts.items at.i c.index_mut.result.now)) = c.in_ok-ask_phase.ensures ∙ ap (λ s. asked_outward (stmt_of s)) c.index_mut.ensures.value in
    (search rules, partly-more stmt_of asked_outward c.args.stmts.now.items at.stmts.items at.i c.index_mut.result.now c.ask_phase.new.s at.invariant.1 here changed)

pub ask_block-returns : goal.ask_block-returns
ask_block-returns t c =
    let at = c.loop-i in
    let stmts = map stmt_of c.args.stmts.now.items in
    let end : length stmts ≤ at.i = omega (arith, c.len-i-end.ensures, length-map c.args.stmts.now.items stmt_of) in
    ap sequence (at.invariant.1 ∙ partly-all asked_outward stmts at.i end) ∙ sym (asked-sequence stmts)

pub ask_part-returns : goal.ask_part-returns
ask_part-returns t c = c.in_ok-ask_phase.ensures ∙ ap (λ s. asked_outward (stmt_of s)) c.deref_mut.ensures.value
