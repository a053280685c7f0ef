use Rattle.std.proofs.Common.{◌∙◌, arith}
use Rattle.std.proofs.Math.Seq.{map-set_same}
use Rattle.std.proofs.lemmas.List.{length-map}
use Rattle.gm_observe.proofs.Telling.{told-next, told_to_some-on_err}
use Rattle.gm_observe.proofs.audience.tell_all.Goals as goal

pub loop-observer-preserved : goal.loop-observer-preserved
loop-observer-preserved g c = (
  told-next _ _ _ _ _ _ _ c.loop-observer.invariant.0 (omega arith) (rw length-map (omega arith)) c.in_ok-tell.ensures.told,
  map-set_same _ _ _ _ _ c.in_ok-tell.ensures.same_way ∙ c.loop-observer.invariant.1,
)

pub returns-in_err-tell-clause-part : goal.returns-in_err-tell-clause-part
returns-in_err-tell-clause-part g c =
    told_to_some-on_err _ _ _ _ c.loop-observer.observer-index
    (rw length-map (omega arith))
    (map-set_same _ _ _ _ _ c.in_err-tell.ensures.untold ∙ c.loop-observer.invariant.0)

pub returns-in_err-tell-clause-same_ways : goal.returns-in_err-tell-clause-same_ways
returns-in_err-tell-clause-same_ways g c =
    map-set_same _ _ _ _ _ c.in_err-tell.ensures.same_way ∙ c.loop-observer.invariant.1
