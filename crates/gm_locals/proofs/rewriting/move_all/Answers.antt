use Rattle.std.proofs.Common.{◌≡◌, ◌<◌, ◌≤◌, refl, ap, ◌∙◌, length, map, arith}
use Rattle.std.specs.Prelude.{slice_index_or}
use Rattle.std.proofs.lemmas.List.{length-set, length-map}
use Rattle.gm_ast.specs.Tree.{expr_of}
use Rattle.gm_dissect.proofs.Partly.{partly-more, partly-all}
use Rattle.gm_locals.specs.AllMoved.{property_of, all_moved_in}
use Rattle.gm_locals.proofs.rewriting.move_all.Goals as goal

pub loop-i-init : goal.loop-i-init
loop-i-init c = (refl, refl)

pub loop-i-preserved : goal.loop-i-preserved
loop-i-preserved c =
    let at = c.loop-i in
    let f = all_moved_in (property_of c.args.kept.first c.args.locals.now) c.args.kept.iterator in
    let here : at.i < length at.values.items = omega (arith, c.len-i-end.ensures) in
    let changed : expr_of c.move_in.new.e ≡ f (expr_of (slice_index_or at.values.items at.i c.index_mut.result.now)) = c.move_in.ensures ∙ ap (λ e. f (expr_of e)) c.index_mut.ensures.value in
    (length-set at.values.items at.i c.move_in.new.e ∙ at.invariant.0, partly-more expr_of f c.args.values.now.items at.values.items at.i c.index_mut.result.now c.move_in.new.e at.invariant.1 here changed)

pub returns : goal.returns
returns c =
    let at = c.loop-i in
    let f = all_moved_in (property_of c.args.kept.first c.args.locals.now) c.args.kept.iterator in
    let end : length (map expr_of c.args.values.now.items) ≤ at.i = omega (arith, c.len-i-end.ensures, length-map c.args.values.now.items expr_of) in
    at.invariant.1 ∙ partly-all f (map expr_of c.args.values.now.items) at.i end
