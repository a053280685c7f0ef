use Rattle.std.proofs.Common.{◌≡◌, ◌+◌, ◌<◌, ◌≤◌, refl, ap, sym, ◌∙◌, length, map, option_map, rules, arith}
use Rattle.std.specs.Prelude.{slice_index_or}
use Rattle.std.proofs.lemmas.List.{length-map}
use Rattle.gm_ast.specs.Program.{sequence}
use Rattle.gm_ast.specs.Tree.{stmt_of}
use Rattle.gm_trees.specs.Places.{after}
use Rattle.gm_desugar.proofs.Trees.{left, stmt_of-InBfs, stmt_of-InBfsBoth}
use Rattle.gm_hoisting.specs.Hoisting.{count_phase, phase_out}
use Rattle.gm_hoisting.proofs.InPlace.{search-is, both-is}
use Rattle.gm_hoisting.proofs.InTurn.{counts_before, partly-more, counts-more, partly-all, counts-all, phase_out-sequence, count_phase-sequence}
use Rattle.gm_hoisting.proofs.hoisting.+hoisting.Goals as goal

pub phase_block-loop-i-init : goal.phase_block-loop-i-init
phase_block-loop-i-init t c = (search rules, refl, omega arith)

pub phase_block-loop-i-preserved : goal.phase_block-loop-i-preserved
phase_block-loop-i-preserved t c =
    let at = c.loop-i in
    let its = c.args.around.now in
    let n = c.args.next.now in
    let ss = map stmt_of c.args.stmts.now.items in
    let d = c.index_mut.result.now in
    let s = stmt_of (slice_index_or at.stmts.items at.i d) in
    let here : at.i < length at.stmts.items = omega (arith, c.len-i-end.ensures) in
    let changed : stmt_of c.phase_out.new.s ≡ phase_out its (n + counts_before (count_phase its) at.i ss) s =
    c.in_ok-phase_out.ensures.out ∙ ap (λ s. phase_out its at.next (stmt_of s)) c.index_mut.ensures.value ∙ ap (λ m. phase_out its m s) at.invariant.2 in
    let counted : c.phase_out.new.next ≡ at.next + count_phase its s = c.in_ok-phase_out.ensures.next ∙ ap (λ s. at.next + count_phase its (stmt_of s)) c.index_mut.ensures.value in
    let more : counts_before (count_phase its) (at.i + 1) ss ≡ counts_before (count_phase its) at.i ss + count_phase its s = counts-more stmt_of (phase_out its) (count_phase its) ss at.stmts.items at.i n d at.invariant.1 here in
    (search rules, partly-more stmt_of (phase_out its) (count_phase its) ss at.stmts.items at.i n d c.phase_out.new.s at.invariant.1 here changed, omega arith)

pub phase_block-returns-clause-out : goal.phase_block-returns-clause-out
phase_block-returns-clause-out t c =
    let at = c.loop-i in
    let its = c.args.around.now in
    let ss = map stmt_of c.args.stmts.now.items in
    let end : length ss ≤ at.i = omega (arith, c.len-i-end.ensures, length-map c.args.stmts.now.items stmt_of) in
    ap sequence (at.invariant.1 ∙ partly-all (phase_out its) (count_phase its) ss at.i c.args.next.now end) ∙ sym (phase_out-sequence its c.args.next.now ss)

pub phase_block-returns-clause-next : goal.phase_block-returns-clause-next
phase_block-returns-clause-next t c =
    let at = c.loop-i in
    let its = c.args.around.now in
    let ss = map stmt_of c.args.stmts.now.items in
    let end : length ss ≤ at.i = omega (arith, c.len-i-end.ensures, length-map c.args.stmts.now.items stmt_of) in
    at.invariant.2 ∙ ap (λ m. c.args.next.now + m) (counts-all (count_phase its) ss at.i end ∙ sym (count_phase-sequence its ss))

pub phase_inner-returns-clause-out : goal.phase_inner-returns-clause-out
phase_inner-returns-clause-out t c = c.in_ok-phase_out.ensures.out ∙ ap (λ s. phase_out c.args.around.now c.args.next.now (stmt_of s)) c.deref_mut.ensures.value

pub phase_inner-returns-clause-next : goal.phase_inner-returns-clause-next
phase_inner-returns-clause-next t c = c.in_ok-phase_out.ensures.next ∙ ap (λ s. c.args.next.now + count_phase c.args.around.now (stmt_of s)) c.deref_mut.ensures.value

pub phase_out-returns-in_ok-put_after-in-InBfs-clause-out : goal.phase_out-returns-in_ok-put_after-in-InBfs-clause-out
phase_out-returns-in_ok-put_after-in-InBfs-clause-out t c =
    let at = c.in-InBfs in
    let first = option_map stmt_of c.in_ok-check-in-InBfs.check in
    c.in_ok-put_after-in-InBfs.ensures ∙ ap (after first) (stmt_of-InBfs _ _ _ _ _) ∙ c.in_ok-check-in-InBfs.ensures.out (left at._place-is)
    ∙ sym (ap (phase_out c.args.around.now c.args.next.now) (search-is at.key-is at._place-is at.search-is at.filter-is at.body-is at.is))

pub phase_out-returns-in_ok-put_after-in-InBfs-clause-next : goal.phase_out-returns-in_ok-put_after-in-InBfs-clause-next
phase_out-returns-in_ok-put_after-in-InBfs-clause-next t c =
    let at = c.in-InBfs in
    c.in_ok-check-in-InBfs.ensures.next ∙ ap (λ s. c.args.next.now + count_phase c.args.around.now s) (sym (search-is at.key-is at._place-is at.search-is at.filter-is at.body-is at.is))

pub phase_out-returns-in_ok-put_after-in-InBfsBoth-clause-out : goal.phase_out-returns-in_ok-put_after-in-InBfsBoth-clause-out
phase_out-returns-in_ok-put_after-in-InBfsBoth-clause-out t c =
    let at = c.in-InBfsBoth in
    let first = option_map stmt_of c.in_ok-check-in-InBfsBoth.check in
    c.in_ok-put_after-in-InBfsBoth.ensures ∙ ap (after first) (stmt_of-InBfsBoth _ _ _ _ _ _ _ _) ∙ c.in_ok-check-in-InBfsBoth.ensures.out (left at._place-is)
    ∙ sym (ap (phase_out c.args.around.now c.args.next.now) (both-is at.key-is at._place-is at.search-is at.filter-is at.body-is at.back_key-is at.back_filter-is at.back-is at.is))

pub phase_out-returns-in_ok-put_after-in-InBfsBoth-clause-next : goal.phase_out-returns-in_ok-put_after-in-InBfsBoth-clause-next
phase_out-returns-in_ok-put_after-in-InBfsBoth-clause-next t c =
    let at = c.in-InBfsBoth in
    c.in_ok-check-in-InBfsBoth.ensures.next ∙ ap (λ s. c.args.next.now + count_phase c.args.around.now s) (sym (both-is at.key-is at._place-is at.search-is at.filter-is at.body-is at.back_key-is at.back_filter-is at.back-is at.is))
