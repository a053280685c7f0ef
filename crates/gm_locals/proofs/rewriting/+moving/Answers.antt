use Rattle.std.proofs.Common.{◌≡◌, ◌<◌, ◌≤◌, refl, ap, sym, ◌∙◌, length, map, rules, arith}
use Rattle.std.specs.Prelude.{slice_index_or}
use Rattle.std.proofs.lemmas.List.{length-map}
use Rattle.gm_ast.specs.Program.{sequence}
use Rattle.gm_ast.specs.Tree.{stmt_of}
use Rattle.gm_dissect.proofs.Partly.{partly-more, partly-all}
use Rattle.gm_locals.specs.AllMoved.{property_of, first_values, all_moved}
use Rattle.gm_locals.proofs.InPlace.{all_moved-block}
use Rattle.gm_locals.proofs.rewriting.+moving.Goals as goal

pub move_block-loop-i-init : goal.move_block-loop-i-init
move_block-loop-i-init t c = (search rules, refl)

pub move_block-loop-i-preserved : goal.move_block-loop-i-preserved
move_block-loop-i-preserved t c =
    let at = c.loop-i in
    let f = all_moved (property_of c.args.kept.first c.args.locals.now) c.args.kept.iterator c.args.kept.place (first_values c.args.declarations.now) in
    let here : at.i < length at.stmts.items = omega (arith, c.len-i-end.ensures) in
    let changed : stmt_of c.move_body.new.s ≡ f (stmt_of (slice_index_or at.stmts.items at.i c.index_mut.result.now)) = c.move_body.ensures ∙ ap (λ s. f (stmt_of s)) c.index_mut.ensures.value in
    (search rules, partly-more stmt_of f c.args.stmts.now.items at.stmts.items at.i c.index_mut.result.now c.move_body.new.s at.invariant.1 here changed)

pub move_block-returns : goal.move_block-returns
move_block-returns t c =
    let at = c.loop-i in
    let home = property_of c.args.kept.first c.args.locals.now in
    let zero = first_values c.args.declarations.now in
    let stmts = map stmt_of c.args.stmts.now.items in
    let end : length stmts ≤ at.i = omega (arith, c.len-i-end.ensures, length-map c.args.stmts.now.items stmt_of) in
    ap sequence (at.invariant.1 ∙ partly-all (all_moved home c.args.kept.iterator c.args.kept.place zero) stmts at.i end) ∙ sym (all_moved-block home c.args.kept.iterator c.args.kept.place zero stmts)

pub move_inner-returns : goal.move_inner-returns
move_inner-returns t c =
    c.move_body.ensures ∙ ap (λ s. all_moved (property_of c.args.kept.first c.args.locals.now) c.args.kept.iterator c.args.kept.place (first_values c.args.declarations.now) (stmt_of s)) c.deref_mut.ensures.value
