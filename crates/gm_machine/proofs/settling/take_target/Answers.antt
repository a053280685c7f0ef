-- Each place goes on where the one before it ended.
use Rattle.std.proofs.Common.{◌≡◌, ◌<◌, ◌≤◌, ◌+◌, ◌∙◌, ℕ, Ok, List, length, map, sym, ap, arith}
use Rattle.std.proofs.lemmas.List.{length-map}
use Rattle.gm_value.specs.declared.values.Value.{Value}
use Rattle.gm_value.specs.Taking.{at_rank}
use Rattle.gm_machine.specs.Expressions.{value_at}
use Rattle.gm_machine.specs.Taking.{overflow_at}
use Rattle.gm_machine.specs.Settling.{slots_in, if_all}
use Rattle.gm_machine.proofs.TargetSteps.{taken_to, target-start, target-gap, target-place, target-fault}
use Rattle.gm_machine.proofs.settling.take_target.Goals as goal

pub loop-place-init : goal.loop-place-init
loop-place-init c =
    let start : List Value = map (value_at c.args.values.now) (slots_in c.args.target.now) in
    record {
      at_most = c.next_place_of-place.ensures.at_most;
      a_place = c.next_place_of-place.ensures.a_place;
      taken_so_far = target-start c.args.reduce (slots_in c.args.target.now) start c.args.parts.now c.next_place_of-place.result c.next_place_of-place.ensures.none_before ∙ ap Ok (sym c.in_ok-copy_held.ensures);
      several = omega (arith, ap length c.in_ok-copy_held.ensures, length-map (slots_in c.args.target.now) (value_at c.args.values.now), length-map c.args.target.now (λ p. p.slot), c.requires.several);
    }

pub returns-then-not-all : goal.returns-then-not-all
returns-then-not-all c =
    let slots : List ℕ = slots_in c.args.target.now in
    let start : List Value = map (value_at c.args.values.now) slots in
    sym (ap overflow_at (target-fault c.args.reduce slots start c.args.parts.now c.loop-place.place c.args.places c.loop-place-test.true
    (target-place c.args.reduce slots start c.args.parts.now c.loop-place.place c.loop-place.held.items (at_rank c.loop-place.place (if_all c.in_ok-all.all c.take_place.new.held.items)) c.loop-place.invariant.taken_so_far c.in_ok-all.ensures.taken
    ∙ ap (λ b. at_rank c.loop-place.place (if_all b c.take_place.new.held.items)) c.if-not-all.true)))

pub loop-place-preserved : goal.loop-place-preserved
loop-place-preserved c =
    let slots : List ℕ = slots_in c.args.target.now in
    let start : List Value = map (value_at c.args.values.now) slots in
    let more : c.loop-place.place + 1 ≤ c.args.places = omega (arith, c.loop-place-test.true) in
    record {
      at_most = c.next_place_of-place-in-loop-place.ensures.at_most;
      a_place = c.next_place_of-place-in-loop-place.ensures.a_place;
      taken_so_far =
          target-gap c.args.reduce slots start c.args.parts.now (c.loop-place.place + 1) c.next_place_of-place-in-loop-place.result (c.next_place_of-place-in-loop-place.ensures.from_on more) c.next_place_of-place-in-loop-place.ensures.none_before
          ∙ target-place c.args.reduce slots start c.args.parts.now c.loop-place.place c.loop-place.held.items (at_rank c.loop-place.place (if_all c.in_ok-all.all c.take_place.new.held.items)) c.loop-place.invariant.taken_so_far c.in_ok-all.ensures.taken
          ∙ ap (λ b. at_rank c.loop-place.place (if_all b c.take_place.new.held.items)) c.if-not-all.false;
      several = c.in_ok-all.ensures.several c.if-not-all.false;
    }

pub returns : goal.returns
returns c =
    let slots : List ℕ = slots_in c.args.target.now in
    let start : List Value = map (value_at c.args.values.now) slots in
    let end : c.loop-place.place ≡ c.args.places = omega (arith, c.loop-place-test.false, c.loop-place.invariant.at_most) in
    sym (ap overflow_at (ap (taken_to c.args.reduce slots start c.args.parts.now) (sym end) ∙ c.loop-place.invariant.taken_so_far))
