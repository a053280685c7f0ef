use Rattle.std.proofs.Common.{◌≡◌, ◌<◌, ◌≤◌, refl, sym, ap, ◌∙◌, length, map, arith}
use Rattle.std.specs.Prelude.{slice_index_or}
use Rattle.std.proofs.lemmas.List.{length-set, length-map}
use Rattle.gm_dissect.proofs.Partly.{partly-more, partly-all}
use Rattle.gm_locals.proofs.InPlace.{itself, map-itself}
use Rattle.gm_parting.specs.Nodes.{through}
use Rattle.gm_prepare.proofs.nodes.reach_through.Goals as goal

pub loop-i-init : goal.loop-i-init
loop-i-init c = (refl, refl)

pub loop-i-preserved : goal.loop-i-preserved
loop-i-preserved c =
    let at = c.loop-i in
    let f = through c.args.variable in
    let here : at.i < length at.targets.items = omega (arith, c.len-i-end.ensures) in
    let changed : c.reach.new.target ≡ f (slice_index_or at.targets.items at.i c.index_mut.result.now) = c.reach.ensures ∙ ap f c.index_mut.ensures.value in
    (length-set at.targets.items at.i c.reach.new.target ∙ at.invariant.0, partly-more itself f c.args.targets.now.items at.targets.items at.i c.index_mut.result.now c.reach.new.target at.invariant.1 here changed)

pub returns : goal.returns
returns c =
    let at = c.loop-i in
    let f = through c.args.variable in
    let end : length (map itself c.args.targets.now.items) ≤ at.i = omega (arith, c.len-i-end.ensures, length-map c.args.targets.now.items itself) in
    sym (map-itself at.targets.items) ∙ at.invariant.1 ∙ partly-all f (map itself c.args.targets.now.items) at.i end ∙ ap (map f) (map-itself c.args.targets.now.items)
