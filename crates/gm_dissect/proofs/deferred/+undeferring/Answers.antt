use Rattle.std.proofs.Common.{◌≡◌, ◌<◌, ◌≤◌, refl, ap, sym, ◌∙◌, length, map, rules, arith}
use Rattle.std.specs.Prelude.{slice_index_or}
use Rattle.std.proofs.lemmas.List.{length-map}
use Rattle.gm_ast.specs.Program.{sequence}
use Rattle.gm_ast.specs.Tree.{stmt_of}
use Rattle.gm_loop_laws.specs.Deferring.{undeferred}
use Rattle.gm_dissect.proofs.Trees.{undeferred-block}
use Rattle.gm_dissect.proofs.Partly.{partly-more, partly-all}
use Rattle.gm_dissect.proofs.deferred.+undeferring.Goals as goal

pub undefer_block-loop-i-init : goal.undefer_block-loop-i-init
undefer_block-loop-i-init t c = (search rules, refl)

pub undefer_block-loop-i-preserved : goal.undefer_block-loop-i-preserved
undefer_block-loop-i-preserved t c =
    let at = c.loop-i in
    let f = undeferred c.args.moved.property c.args.moved.copy in
    let here : at.i < length at.stmts.items = omega (arith, c.len-i-end.ensures) in
    let changed : stmt_of c.undefer_body.new.s ≡ f (stmt_of (slice_index_or at.stmts.items at.i c.index_mut.result.now)) = c.undefer_body.ensures ∙ ap (λ s. f (stmt_of s)) c.index_mut.ensures.value in
    (search rules, partly-more stmt_of f c.args.stmts.now.items at.stmts.items at.i c.index_mut.result.now c.undefer_body.new.s at.invariant.1 here changed)

pub undefer_block-returns : goal.undefer_block-returns
undefer_block-returns t c =
    let at = c.loop-i in
    let stmts = map stmt_of c.args.stmts.now.items in
    let end : length stmts ≤ at.i = omega (arith, c.len-i-end.ensures, length-map c.args.stmts.now.items stmt_of) in
    ap sequence (at.invariant.1 ∙ partly-all (undeferred c.args.moved.property c.args.moved.copy) stmts at.i end) ∙ sym (undeferred-block c.args.moved.property c.args.moved.copy stmts)

pub undefer_inner-returns : goal.undefer_inner-returns
undefer_inner-returns t c = c.undefer_body.ensures ∙ ap (λ s. undeferred c.args.moved.property c.args.moved.copy (stmt_of s)) c.deref_mut.ensures.value
