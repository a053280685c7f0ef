use Rattle.std.proofs.Common.{◌≡◌, ◌+◌, ◌<◌, ◌≤◌, refl, ap, ◌∙◌, length, map, rules, arith}
use Rattle.std.specs.Prelude.{slice_index_or}
use Rattle.std.proofs.lemmas.List.{length-map}
use Rattle.gm_ast.specs.Program.{sequence}
use Rattle.gm_ast.specs.Tree.{stmt_of}
use Rattle.gm_picks.specs.Picks.{count_picks, onto_scalars}
use Rattle.gm_picks.proofs.InPlace.{counted_before, partly-more, counted_before-more, partly-all, counted_before-all}
use Rattle.gm_picks.proofs.Steps.{onto-sequence, count-sequence}
use Rattle.gm_picks.proofs.picks.+picking.Goals as goal

pub pick_block-loop-i-init : goal.pick_block-loop-i-init
pick_block-loop-i-init t c = (search rules, refl, omega arith)

pub pick_block-loop-i-preserved : goal.pick_block-loop-i-preserved
pick_block-loop-i-preserved t c =
    let at = c.loop-i in
    let its = c.args.around.now in
    let n = c.args.next.now in
    let ss = map stmt_of c.args.stmts.now.items in
    let d = c.index_mut.result.now in
    let here : at.i < length at.stmts.items = omega (arith, c.len-i-end.ensures) in
    let changed : stmt_of c.pick_onto.new.s ≡ onto_scalars its (n + counted_before (onto_scalars its) (count_picks its) at.i ss) (stmt_of (slice_index_or at.stmts.items at.i d)) =
    c.in_ok-pick_onto.ensures.onto ∙ ap (λ s. onto_scalars its at.next (stmt_of s)) c.index_mut.ensures.value ∙ ap (λ m. onto_scalars its m (stmt_of (slice_index_or at.stmts.items at.i d))) at.invariant.2 in
    let counted : c.pick_onto.new.next ≡ at.next + count_picks its (stmt_of (slice_index_or at.stmts.items at.i d)) = c.in_ok-pick_onto.ensures.next ∙ ap (λ s. at.next + count_picks its (stmt_of s)) c.index_mut.ensures.value in
    let more : counted_before (onto_scalars its) (count_picks its) (at.i + 1) ss ≡ counted_before (onto_scalars its) (count_picks its) at.i ss + count_picks its (stmt_of (slice_index_or at.stmts.items at.i d)) =
    counted_before-more (onto_scalars its) (count_picks its) stmt_of ss at.stmts.items at.i n d at.invariant.1 here in
    (search rules, partly-more (onto_scalars its) (count_picks its) stmt_of ss at.stmts.items at.i n d c.pick_onto.new.s at.invariant.1 here changed, omega arith)

pub pick_block-returns-clause-onto : goal.pick_block-returns-clause-onto
pick_block-returns-clause-onto t c =
    let at = c.loop-i in
    let its = c.args.around.now in
    let ss = map stmt_of c.args.stmts.now.items in
    let end : length ss ≤ at.i = omega (arith, c.len-i-end.ensures, length-map c.args.stmts.now.items stmt_of) in
    ap sequence (at.invariant.1 ∙ partly-all (onto_scalars its) (count_picks its) ss at.i c.args.next.now end) ∙ onto-sequence its c.args.next.now ss

pub pick_block-returns-clause-next : goal.pick_block-returns-clause-next
pick_block-returns-clause-next t c =
    let at = c.loop-i in
    let its = c.args.around.now in
    let ss = map stmt_of c.args.stmts.now.items in
    let end : length ss ≤ at.i = omega (arith, c.len-i-end.ensures, length-map c.args.stmts.now.items stmt_of) in
    at.invariant.2 ∙ ap (λ m. c.args.next.now + m) (counted_before-all (onto_scalars its) (count_picks its) ss at.i end ∙ count-sequence its ss)

pub pick_part-returns-clause-onto : goal.pick_part-returns-clause-onto
pick_part-returns-clause-onto t c = c.in_ok-pick_onto.ensures.onto ∙ ap (λ s. onto_scalars c.args.around.now c.args.next.now (stmt_of s)) c.deref_mut.ensures.value

pub pick_part-returns-clause-next : goal.pick_part-returns-clause-next
pick_part-returns-clause-next t c = c.in_ok-pick_onto.ensures.next ∙ ap (λ s. c.args.next.now + count_picks c.args.around.now (stmt_of s)) c.deref_mut.ensures.value
