use Rattle.std.proofs.Common.{◌≡◌, ◌<◌, ◌≤◌, refl, sym, ap, ◌∙◌, length, map, arith}
use Rattle.std.specs.Prelude.{false, slice_index_or}
use Rattle.std.proofs.lemmas.List.{length-set, length-map}
use Rattle.gm_dissect.proofs.Partly.{partly-more, partly-all}
use Rattle.gm_prepare.specs.Placing.{placed}
use Rattle.gm_prepare.proofs.Placing.{itself, map-itself}
use Rattle.gm_prepare.proofs.iterators.place_outer.Goals as goal

pub loop-i-init : goal.loop-i-init
loop-i-init c = (refl, refl)

pub loop-i-preserved : goal.loop-i-preserved
loop-i-preserved c =
    let at = c.loop-i in
    let f = placed false in
    let here : at.i < length at.declarations.items = omega (arith, c.len-i-end.ensures) in
    let changed : c.place.new.declaration ≡ f (slice_index_or at.declarations.items at.i c.index_mut.result.now) = c.place.ensures ∙ ap f c.index_mut.ensures.value in
    (length-set at.declarations.items at.i c.place.new.declaration ∙ at.invariant.0, partly-more itself f c.args.declarations.now.items at.declarations.items at.i c.index_mut.result.now c.place.new.declaration at.invariant.1 here changed)

pub returns : goal.returns
returns c =
    let at = c.loop-i in
    let f = placed false in
    let end : length (map itself c.args.declarations.now.items) ≤ at.i = omega (arith, c.len-i-end.ensures, length-map c.args.declarations.now.items itself) in
    sym (map-itself at.declarations.items) ∙ at.invariant.1 ∙ partly-all f (map itself c.args.declarations.now.items) at.i end ∙ ap (map f) (map-itself c.args.declarations.now.items)
