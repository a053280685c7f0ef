-- One more contribution has the slot or not.
use Rattle.std.proofs.Common.{◌≡◌, ◌+◌, pos, true, false, take, drop, get_or, sym, ap, ◌∙◌}
use Rattle.gm_image.specs.Parts.{is_among}
use Rattle.gm_value.specs.declared.values.Value.TheVariants.{I32}
use Rattle.gm_value.specs.declared.reductions.Reduce.TheVariants.{Sum}
use Rattle.gm_machine.specs.declared.contributions.ContributionPart.{ContributionPart}
use Rattle.gm_machine.specs.Settling.{slots_in}
use Rattle.gm_machine.proofs.TargetSteps.{whole-at, range-is, first-is, first-not}
use Rattle.gm_machine.proofs.settling.first_with.Goals as goal

abbrev d : ContributionPart
d = record { place = 0; reduce = Sum; width = 0; slot = 0; value = I32 (pos 0) }

pub slice_bounds-has_slot-end : goal.slice_bounds-has_slot-end
slice_bounds-has_slot-end c = whole-at c.args.parts.now c.loop-i.i d c.requires c.loop-i-test.true

pub returns-then-has_slot : goal.returns-then-has_slot
returns-then-has_slot c =
    first-is c.args.slot c.args.parts.now c.loop-i.i d c.loop-i-test.true c.loop-i.invariant
    (ap (λ ps. is_among c.args.slot (slots_in ps)) (sym (range-is c.args.parts.now c.loop-i.i (get_or c.args.parts.now c.loop-i.i d).width)) ∙ sym c.has_slot.ensures ∙ c.if-has_slot.true)

pub loop-i-preserved : goal.loop-i-preserved
loop-i-preserved c =
    first-not c.args.slot c.args.parts.now c.loop-i.i d c.loop-i-test.true c.loop-i.invariant
    (ap (λ ps. is_among c.args.slot (slots_in ps)) (sym (range-is c.args.parts.now c.loop-i.i (get_or c.args.parts.now c.loop-i.i d).width)) ∙ sym c.has_slot.ensures ∙ c.if-has_slot.false)
