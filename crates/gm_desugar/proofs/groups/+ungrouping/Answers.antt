use Rattle.std.proofs.Common.{◌≡◌, ◌<◌, ◌≤◌, refl, ap, sym, ◌∙◌, length, map, rules, arith}
use Rattle.std.specs.Prelude.{slice_index_or}
use Rattle.std.proofs.lemmas.List.{length-map}
use Rattle.gm_ast.specs.Program.{sequence}
use Rattle.gm_ast.specs.Tree.{stmt_of}
use Rattle.gm_desugar.specs.Groups.{ungrouped}
use Rattle.gm_desugar.proofs.InPlace.{ungrouped-sequence}
use Rattle.gm_desugar.proofs.Partly.{partly-more, partly-all}
use Rattle.gm_desugar.proofs.groups.+ungrouping.Goals as goal

pub ungroup_block-loop-i-init : goal.ungroup_block-loop-i-init
ungroup_block-loop-i-init t c = (search rules, refl)

pub ungroup_block-loop-i-preserved : goal.ungroup_block-loop-i-preserved
ungroup_block-loop-i-preserved t c =
    let at = c.loop-i in
    let here : at.i < length at.stmts.items = omega (arith, c.len-i-end.ensures) in
    let changed : stmt_of c.ungroup.new.s ≡ ungrouped (stmt_of (slice_index_or at.stmts.items at.i c.index_mut.result.now)) = c.in_ok-ungroup.ensures ∙ ap (λ s. ungrouped (stmt_of s)) c.index_mut.ensures.value in
    (search rules, partly-more stmt_of ungrouped c.args.stmts.now.items at.stmts.items at.i c.index_mut.result.now c.ungroup.new.s at.invariant.1 here changed)

pub ungroup_block-returns : goal.ungroup_block-returns
ungroup_block-returns t c =
    let at = c.loop-i in
    let stmts = map stmt_of c.args.stmts.now.items in
    let end : length stmts ≤ at.i = omega (arith, c.len-i-end.ensures, length-map c.args.stmts.now.items stmt_of) in
    ap sequence (at.invariant.1 ∙ partly-all ungrouped stmts at.i end) ∙ sym (ungrouped-sequence stmts)

pub ungroup_inner-returns : goal.ungroup_inner-returns
ungroup_inner-returns t c = c.in_ok-ungroup.ensures ∙ ap (λ s. ungrouped (stmt_of s)) c.deref_mut.ensures.value
