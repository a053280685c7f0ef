use Rattle.std.proofs.Common.{◌≡◌, ◌<◌, ◌≤◌, refl, ap, sym, ◌∙◌, length, map, rules, arith}
use Rattle.std.specs.Prelude.{slice_index_or}
use Rattle.std.proofs.lemmas.List.{length-map}
use Rattle.gm_ast.specs.Program.{sequence}
use Rattle.gm_ast.specs.Tree.{stmt_of}
use Rattle.gm_desugar.specs.Compounds.{expanded_in}
use Rattle.gm_desugar.proofs.InPlace.{expanded_in-sequence}
use Rattle.gm_desugar.proofs.Partly.{partly-more, partly-all}
use Rattle.gm_desugar.proofs.compounds.+body.Goals as goal

pub expand_block-loop-i-init : goal.expand_block-loop-i-init
expand_block-loop-i-init t c = (search rules, refl)

pub expand_block-loop-i-preserved : goal.expand_block-loop-i-preserved
expand_block-loop-i-preserved t c =
    let at = c.loop-i in
    let here : at.i < length at.stmts.items = omega (arith, c.len-i-end.ensures) in
    let changed : stmt_of c.expand_body.new.s ≡ expanded_in c.args.declarations.now c.args.around.outer c.args.around.inner (stmt_of (slice_index_or at.stmts.items at.i c.index_mut.result.now)) = c.in_ok-expand_body.ensures ∙ ap (λ s. expanded_in c.args.declarations.now c.args.around.outer c.args.around.inner (stmt_of s)) c.index_mut.ensures.value in
    (search rules, partly-more stmt_of (expanded_in c.args.declarations.now c.args.around.outer c.args.around.inner) c.args.stmts.now.items at.stmts.items at.i c.index_mut.result.now c.expand_body.new.s at.invariant.1 here changed)

pub expand_block-returns : goal.expand_block-returns
expand_block-returns t c =
    let at = c.loop-i in
    let stmts = map stmt_of c.args.stmts.now.items in
    let end : length stmts ≤ at.i = omega (arith, c.len-i-end.ensures, length-map c.args.stmts.now.items stmt_of) in
    ap sequence (at.invariant.1 ∙ partly-all (expanded_in c.args.declarations.now c.args.around.outer c.args.around.inner) stmts at.i end) ∙ sym (expanded_in-sequence c.args.declarations.now c.args.around.outer c.args.around.inner stmts)

pub expand_inner-returns : goal.expand_inner-returns
expand_inner-returns t c = c.in_ok-expand_body.ensures ∙ ap (λ s. expanded_in c.args.declarations.now c.args.around.outer c.args.around.inner (stmt_of s)) c.deref_mut.ensures.value
