-- A contribution of another width is to other slots.
use Rattle.std.proofs.Common.{◌≡◌, ◌<◌, ◌≤◌, pos, length, get_or, sym, ap, ◌∙◌, arith}
use Rattle.std.proofs.lemmas.Bool.{ne_eqb}
use Rattle.std.proofs.lemmas.List.{length-map}
use Rattle.gm_value.specs.declared.values.Value.TheVariants.{I32}
use Rattle.gm_value.specs.declared.reductions.Reduce.TheVariants.{Sum}
use Rattle.gm_machine.specs.declared.contributions.ContributionPart.{ContributionPart}
use Rattle.gm_machine.specs.Settling.{slots_in}
use Rattle.gm_machine.proofs.TargetSteps.{whole-at, begins-there, begins-not}
use Rattle.gm_machine.proofs.settling.begins_at.Goals as goal

abbrev d : ContributionPart
d = record { place = 0; reduce = Sum; width = 0; slot = 0; value = I32 (pos 0) }

pub slice_bounds-same_slots-end : goal.slice_bounds-same_slots-end
slice_bounds-same_slots-end c = whole-at c.args.parts.now c.args.i d c.requires.whole c.requires.within

pub returns-then-width-target : goal.returns-then-width-target
returns-then-width-target c =
    let some : 1 ≤ (get_or c.args.parts.now c.args.i d).width = omega (arith, c.if-width-target.true, c.requires.some) in
    begins-there (slots_in c.args.target.now) c.args.parts.now c.args.i d c.requires.within c.same_slots.result some c.same_slots.ensures

pub returns-else-width-target : goal.returns-else-width-target
returns-else-width-target c =
    ne_eqb (get_or c.args.parts.now c.args.i d).width (length c.args.target.now) c.if-width-target.false
    ∙ begins-not (slots_in c.args.target.now) c.args.parts.now c.args.i d c.requires.within c.requires.whole
    (λ same. c.if-width-target.false (same ∙ length-map c.args.target.now (λ p. p.slot)))
