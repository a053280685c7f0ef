-- Each place goes on where the one before it ended.
use Rattle.std.proofs.Common.{◌+◌, ◌≤◌, arith}
use Rattle.gm_machine.proofs.TakingSteps.{reduced-start, reduced-next, reduced-fault, bag_at}
use Rattle.gm_machine.proofs.settling.reduced.Goals as goal

pub loop-place-init : goal.loop-place-init
loop-place-init c = record {
  at_most = c.next_place-place.ensures.at_most;
  a_place = c.next_place-place.ensures.a_place;
  taken_so_far = reduced-start c.args.reduce c.args.slot c.next_place-place.result c.args.held c.args.parts.now c.next_place-place.ensures.none_before;
}

pub returns-in-Err : goal.returns-in-Err
returns-in-Err c =
    reduced-fault c.reductions_are_monoids.ensures.unit c.args.reduce c.args.slot c.loop-place.place c.args.places c.args.held c.loop-place.value c.in-Err.field-0 c.args.parts.now
    c.closed.ensures.in_range c.loop-place.invariant.taken_so_far
    (c.in-Err.ensures.value (bag_at c.args.slot c.loop-place.place c.args.parts.now) c.in_ok-total.ensures.total) c.loop-place-test.true

pub loop-place-preserved : goal.loop-place-preserved
loop-place-preserved c =
    let more : c.loop-place.place + 1 ≤ c.args.places = omega arith in
    record {
      at_most = c.next_place-place-in-loop-place.ensures.at_most;
      a_place = c.next_place-place-in-loop-place.ensures.a_place;
      taken_so_far =
          reduced-next c.reductions_are_monoids.ensures.unit c.args.reduce c.args.slot c.loop-place.place c.next_place-place-in-loop-place.result c.args.held c.loop-place.value c.in-Ok.v c.args.parts.now
          c.closed.ensures.in_range c.loop-place.invariant.taken_so_far
          (c.in-Ok.ensures.value (bag_at c.args.slot c.loop-place.place c.args.parts.now) c.in_ok-total.ensures.total)
          (c.next_place-place-in-loop-place.ensures.from_on more) c.next_place-place-in-loop-place.ensures.none_before;
    }
