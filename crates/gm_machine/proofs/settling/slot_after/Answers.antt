-- The first contribution that has the slot says what its target is.
use Rattle.std.proofs.Common.{◌≡◌, ◌∙◌, pos, Ok, sym, ap}
use Rattle.gm_value.specs.declared.values.Value.TheVariants.{I32}
use Rattle.gm_value.specs.declared.reductions.Reduce.TheVariants.{Sum}
use Rattle.gm_machine.specs.declared.contributions.ContributionPart.{ContributionPart}
use Rattle.gm_machine.proofs.TargetSteps.{whole-at, value-there, slot-none, slot-one, slot-many, range-several}
use Rattle.gm_machine.proofs.settling.slot_after.Goals as goal

abbrev d : ContributionPart
d = record { place = 0; reduce = Sum; width = 0; slot = 0; value = I32 (pos 0) }

pub slice_bounds-target-end : goal.slice_bounds-target-end
slice_bounds-target-end c = whole-at c.args.parts.now c.in-Some.i d c.requires.whole c.in-Some.ensures.within

pub target_entry-requires-clause-several : goal.target_entry-requires-clause-several
target_entry-requires-clause-several c =
    range-several c.args.places c.args.slot c.args.values.now c.args.parts.now c.in-Some.i d c.requires.whole c.in-Some.ensures (Ok (I32 (pos 0))) c.if-first-eq1.false

pub returns-in-None : goal.returns-in-None
returns-in-None c =
    sym (slot-none c.args.places c.args.slot c.args.values.now c.args.parts.now c.in-None.ensures ∙ ap Ok (sym (value-there c.args.values.now c.args.slot (I32 (pos 0)) c.requires.within)))

pub returns-then-first-eq1 : goal.returns-then-first-eq1
returns-then-first-eq1 c =
    slot-one c.args.places c.args.slot c.args.values.now c.args.parts.now c.in-Some.i d c.requires.whole c.in-Some.ensures c.in_ok-single-in-Some.single (I32 (pos 0)) c.if-first-eq1.true c.requires.within c.in_ok-single-in-Some.ensures

pub returns-in_ok-entry-in-Some : goal.returns-in_ok-entry-in-Some
returns-in_ok-entry-in-Some c = slot-many c.args.places c.args.slot c.args.values.now c.args.parts.now c.in-Some.i d c.requires.whole c.in-Some.ensures c.in_ok-entry-in-Some.entry c.in_ok-entry-in-Some.ensures
