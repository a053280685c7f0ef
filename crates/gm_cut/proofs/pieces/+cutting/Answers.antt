use Rattle.std.proofs.Common.{◌≡◌, ◌<◌, ◌≤◌, refl, ap, sym, ◌∙◌, length, map, rules, arith}
use Rattle.std.specs.Prelude.{slice_index_or}
use Rattle.std.proofs.lemmas.List.{length-map}
use Rattle.gm_ast.specs.Program.{sequence}
use Rattle.gm_ast.specs.Tree.{stmt_of}
use Rattle.gm_dissect.proofs.Partly.{partly-more, partly-all}
use Rattle.gm_dissect.proofs.Trees.{each_loop-block}
use Rattle.gm_dissect.specs.Loops.{each_loop}
use Rattle.gm_cut.specs.Parts.{parted_loop}
use Rattle.gm_cut.proofs.pieces.+cutting.Goals as goal

pub cut_block-loop-i-init : goal.cut_block-loop-i-init
cut_block-loop-i-init t c = (search rules, refl)

pub cut_block-loop-i-preserved : goal.cut_block-loop-i-preserved
cut_block-loop-i-preserved t c =
    let at = c.loop-i in
    let here : at.i < length at.stmts.items = omega (arith, c.len-i-end.ensures) in
    let changed : stmt_of c.cut_phase.new.s ≡ each_loop parted_loop (stmt_of (slice_index_or at.stmts.items at.i c.index_mut.result.now)) = c.in_ok-cut_phase.ensures ∙ ap (λ s. each_loop parted_loop (stmt_of s)) c.index_mut.ensures.value in
    (search rules, partly-more stmt_of (each_loop parted_loop) c.args.stmts.now.items at.stmts.items at.i c.index_mut.result.now c.cut_phase.new.s at.invariant.1 here changed)

pub cut_block-returns : goal.cut_block-returns
cut_block-returns t c =
    let at = c.loop-i in
    let stmts = map stmt_of c.args.stmts.now.items in
    let end : length stmts ≤ at.i = omega (arith, c.len-i-end.ensures, length-map c.args.stmts.now.items stmt_of) in
    ap sequence (at.invariant.1 ∙ partly-all (each_loop parted_loop) stmts at.i end) ∙ sym (each_loop-block parted_loop stmts)

pub cut_part-returns : goal.cut_part-returns
cut_part-returns t c = c.in_ok-cut_phase.ensures ∙ ap (λ s. each_loop parted_loop (stmt_of s)) c.deref_mut.ensures.value
