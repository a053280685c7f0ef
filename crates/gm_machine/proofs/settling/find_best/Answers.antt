-- One more tuple, or none.
use Rattle.std.proofs.Common.{◌≡◌, ◌≤◌, ◌+◌, ◌∙◌, ℕ, true, List, Vec, Global, pos, length, get_or, take, drop, map, sym, ap, subst, arith}
use Rattle.gm_value.specs.declared.values.Value.{Value}
use Rattle.gm_value.specs.declared.values.Value.TheVariants.{I32}
use Rattle.gm_value.specs.declared.reductions.Reduce.TheVariants.{Sum}
use Rattle.gm_machine.specs.declared.contributions.ContributionPart.{ContributionPart}
use Rattle.gm_machine.specs.Settling.{slots_in, better}
use Rattle.gm_machine.proofs.TargetSteps.{IsBestTo, whole-at, range-is, best-same, best-more, best-all}
use Rattle.gm_machine.proofs.settling.find_best.Goals.{then-comes_at+in_ok-take_better, else-comes_at}
use Rattle.gm_machine.proofs.settling.find_best.Goals as goal

abbrev d : ContributionPart
d = record { place = 0; reduce = Sum; width = 0; slot = 0; value = I32 (pos 0) }

pub slice_bounds-take_better-end : goal.slice_bounds-take_better-end
slice_bounds-take_better-end c = whole-at c.args.parts.now c.loop-i.i d c.requires.whole c.loop-i-test.true

pub loop-i-preserved : goal.loop-i-preserved
loop-i-preserved c =
    let slots : List ℕ = slots_in c.args.target.now in
    let parts : List ContributionPart = c.args.parts.now in
    let width : ℕ = (get_or parts c.loop-i.i d).width in
    elim c.if-comes_at.branch [
      | then-comes_at+in_ok-take_better w ↦
          let new_is : w.take_better.new.best.items ≡ better c.args.reduce c.loop-i.chosen.items (map (λ p. p.value) (take width (drop c.loop-i.i parts))) =
          w.in_ok-take_better.ensures ∙ ap (λ ps. better c.args.reduce c.loop-i.chosen.items (map (λ p. p.value) ps)) (range-is parts c.loop-i.i width) in
          let better_to : IsBestTo c.args.reduce c.args.place slots c.args.held.now parts (c.loop-i.i + 1) true w.take_better.new.best.items =
          best-more c.args.reduce c.args.place slots c.args.held.now parts c.loop-i.i d c.loop-i.found c.loop-i.chosen.items c.loop-i-test.true c.loop-i.invariant
          w.take_better.new.best.items (c.comes_at.ensures.begun w.if-comes_at.true) (c.comes_at.ensures.here w.if-comes_at.true d) new_is in
          subst (λ f. IsBestTo c.args.reduce c.args.place slots c.args.held.now parts (c.loop-i.i + 1) f c.if-comes_at.chosen.items) (sym w.found-is)
          (subst (λ (v : Vec Value Global). IsBestTo c.args.reduce c.args.place slots c.args.held.now parts (c.loop-i.i + 1) true v.items) (sym w.chosen-is) better_to)
      | else-comes_at w ↦
          let same_to : IsBestTo c.args.reduce c.args.place slots c.args.held.now parts (c.loop-i.i + 1) c.loop-i.found c.loop-i.chosen.items =
          best-same c.args.reduce c.args.place slots c.args.held.now parts c.loop-i.i d c.loop-i.found c.loop-i.chosen.items c.loop-i-test.true c.loop-i.invariant
          (λ begun same. c.comes_at.ensures.other w.if-comes_at.false begun d same) in
          subst (λ f. IsBestTo c.args.reduce c.args.place slots c.args.held.now parts (c.loop-i.i + 1) f c.if-comes_at.chosen.items) (sym w.found-is)
          (subst (λ (v : Vec Value Global). IsBestTo c.args.reduce c.args.place slots c.args.held.now parts (c.loop-i.i + 1) c.loop-i.found v.items) (sym w.chosen-is) same_to)
    ]

pub returns-clause-some : goal.returns-clause-some
returns-clause-some c =
    let end : length c.args.parts.now ≤ c.loop-i.i = omega (arith, c.loop-i-test.false) in
    (best-all c.args.reduce c.args.place (slots_in c.args.target.now) c.args.held.now c.args.parts.now c.loop-i.i c.loop-i.found c.loop-i.chosen.items end c.loop-i.invariant).0

pub returns-clause-best : goal.returns-clause-best
returns-clause-best c =
    let end : length c.args.parts.now ≤ c.loop-i.i = omega (arith, c.loop-i-test.false) in
    (best-all c.args.reduce c.args.place (slots_in c.args.target.now) c.args.held.now c.args.parts.now c.loop-i.i c.loop-i.found c.loop-i.chosen.items end c.loop-i.invariant).1
