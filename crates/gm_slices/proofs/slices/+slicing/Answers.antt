use Rattle.std.proofs.Common.{◌≡◌, ◌<◌, ◌≤◌, refl, ap, sym, ◌∙◌, length, map, rules, arith}
use Rattle.std.specs.Prelude.{slice_index_or}
use Rattle.std.proofs.lemmas.List.{length-map}
use Rattle.gm_ast.specs.Program.{sequence}
use Rattle.gm_ast.specs.Tree.{stmt_of}
use Rattle.gm_dissect.proofs.Partly.{partly-more, partly-all}
use Rattle.gm_dissect.proofs.Trees.{each_loop-block}
use Rattle.gm_dissect.specs.Loops.{each_loop}
use Rattle.gm_cut.specs.Lean.{lean_loop}
use Rattle.gm_slices.proofs.slices.+slicing.Goals as goal

pub slice_all-loop-i-init : goal.slice_all-loop-i-init
slice_all-loop-i-init t c = (search rules, refl)

pub slice_all-loop-i-preserved : goal.slice_all-loop-i-preserved
slice_all-loop-i-preserved t c =
    let at = c.loop-i in
    let f = each_loop (lean_loop c.args.declarations.now) in
    let here : at.i < length at.stmts.items = omega (arith, c.len-i-end.ensures) in
    let changed : stmt_of c.slice_phase.new.s ≡ f (stmt_of (slice_index_or at.stmts.items at.i c.index_mut.result.now)) = c.in_ok-slice_phase.ensures ∙ ap (λ s. f (stmt_of s)) c.index_mut.ensures.value in
    (search rules, partly-more stmt_of f c.args.stmts.now.items at.stmts.items at.i c.index_mut.result.now c.slice_phase.new.s at.invariant.1 here changed)

pub slice_all-returns : goal.slice_all-returns
slice_all-returns t c =
    let at = c.loop-i in
    let f = each_loop (lean_loop c.args.declarations.now) in
    let stmts = map stmt_of c.args.stmts.now.items in
    let end : length stmts ≤ at.i = omega (arith, c.len-i-end.ensures, length-map c.args.stmts.now.items stmt_of) in
    ap sequence (at.invariant.1 ∙ partly-all f stmts at.i end) ∙ sym (each_loop-block (lean_loop c.args.declarations.now) stmts)

pub slice_part-returns : goal.slice_part-returns
slice_part-returns t c = c.in_ok-slice_phase.ensures ∙ ap (λ s. each_loop (lean_loop c.args.declarations.now) (stmt_of s)) c.deref_mut.ensures.value
