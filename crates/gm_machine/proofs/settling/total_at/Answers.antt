-- One more contribution is a member of the total, or none.
use Rattle.std.proofs.Common.{◌+◌, ◌∙◌, pos, sym, subst, take, get_or}
use Rattle.std.proofs.lemmas.Bool.{both_ways}
use Rattle.gm_value.specs.declared.values.Value.TheVariants.{I32}
use Rattle.gm_value.specs.declared.values.VType.TheVariants.{I64}
use Rattle.gm_value.specs.declared.reductions.Reduce.TheVariants.{Sum}
use Rattle.gm_value.specs.declared.totals.Total.{Total}
use Rattle.gm_value.specs.Totals.{IsTotal}
use Rattle.gm_machine.specs.declared.contributions.ContributionPart.{ContributionPart}
use Rattle.gm_machine.specs.Settling.{is_to, longs_of}
use Rattle.gm_machine.proofs.TotalSteps.{members, total-more, total-same}
use Rattle.gm_machine.proofs.settling.total_at.Goals.{then-is_to+then-c-place+else-not-has_room, else-is_to, else-is_to-via-then-is_to+else-c-place, else-is_to-via-else-is_to}
use Rattle.gm_machine.proofs.settling.total_at.Goals as goal

pub loop-c-preserved : goal.loop-c-preserved
loop-c-preserved c =
    let d : ContributionPart = record { place = 0; reduce = Sum; width = 0; slot = 0; value = I32 (pos 0) } in
    let P : Total → Type 0 = λ t. IsTotal c.args.reduce I64 t (longs_of (members c.args.slot c.args.place (take (c.loop-c.c-index + 1) c.args.parts.now))) in
    elim c.if-is_to.branch [
      | then-is_to+then-c-place+else-not-has_room w ↦
          subst P (sym w.total-is)
          (total-more c.args.slot c.args.place c.args.reduce c.loop-c.total w.total_add-total.result w.long.result c.args.parts.now c.loop-c.c-index d
          c.loop-c-test.true (sym c.is_to.ensures ∙ w.if-is_to.true) w.if-c-place.true w.long.ensures.long w.total_add-total.ensures.adds c.loop-c.invariant)
      | else-is_to w ↦ elim w.else-is_to.branch [
        | else-is_to-via-then-is_to+else-c-place w' ↦
            subst P (sym w.total-is) (total-same c.args.slot c.args.place c.args.reduce c.loop-c.total c.args.parts.now c.loop-c.c-index d c.loop-c-test.true (λ is at. w'.if-c-place.false at) c.loop-c.invariant)
        | else-is_to-via-else-is_to w' ↦
            subst P (sym w.total-is) (total-same c.args.slot c.args.place c.args.reduce c.loop-c.total c.args.parts.now c.loop-c.c-index d c.loop-c-test.true (λ is at. both_ways (is_to c.args.slot (get_or c.args.parts.now c.loop-c.c-index d)) (sym c.is_to.ensures ∙ w'.if-is_to.false) is) c.loop-c.invariant)
      ]
    ]
