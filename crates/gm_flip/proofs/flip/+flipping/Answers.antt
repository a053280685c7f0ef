use Rattle.std.proofs.Common.{◌≡◌, ◌<◌, ◌≤◌, refl, ap, sym, ◌∙◌, length, map, rules, arith}
use Rattle.std.specs.Prelude.{slice_index_or}
use Rattle.std.proofs.lemmas.List.{length-map}
use Rattle.gm_ast.specs.Program.{sequence}
use Rattle.gm_ast.specs.Tree.{stmt_of}
use Rattle.gm_flip.specs.Flipped.{flipped}
use Rattle.gm_flip.proofs.Partly.{partly-more, partly-all}
use Rattle.gm_flip.proofs.Trees.{flipped-sequence}
use Rattle.gm_flip.proofs.flip.+flipping.Goals as goal

pub flip_block-loop-i-init : goal.flip_block-loop-i-init
flip_block-loop-i-init t c = (search rules, refl)

pub flip_block-loop-i-preserved : goal.flip_block-loop-i-preserved
flip_block-loop-i-preserved t c =
    let at = c.loop-i in
    let here : at.i < length at.stmts.items = omega (arith, c.len-i-end.ensures) in
    let changed : stmt_of c.flip_phase.new.s ≡ flipped (stmt_of (slice_index_or at.stmts.items at.i c.index_mut.result.now)) = c.in_ok-flip_phase.ensures ∙ ap (λ s. flipped (stmt_of s)) c.index_mut.ensures.value in
    (search rules, partly-more stmt_of flipped c.args.stmts.now.items at.stmts.items at.i c.index_mut.result.now c.flip_phase.new.s at.invariant.1 here changed)

pub flip_block-returns : goal.flip_block-returns
flip_block-returns t c =
    let at = c.loop-i in
    let stmts = map stmt_of c.args.stmts.now.items in
    let end : length stmts ≤ at.i = omega (arith, c.len-i-end.ensures, length-map c.args.stmts.now.items stmt_of) in
    ap sequence (at.invariant.1 ∙ partly-all flipped stmts at.i end) ∙ sym (flipped-sequence stmts)

pub flip_part-returns : goal.flip_part-returns
flip_part-returns t c = c.in_ok-flip_phase.ensures ∙ ap (λ s. flipped (stmt_of s)) c.deref_mut.ensures.value
