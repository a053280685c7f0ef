-- One more contribution.
use Rattle.std.proofs.Common.{◌≡◌, ◌<◌, ◌≤◌, ◌+◌, ◌∙◌, pos, length, get_or, arith}
use Rattle.gm_value.specs.declared.values.Value.TheVariants.{I32}
use Rattle.gm_value.specs.declared.reductions.Reduce.TheVariants.{Sum}
use Rattle.gm_machine.specs.declared.contributions.ContributionPart.{ContributionPart}
use Rattle.gm_machine.specs.Settling.{slots_in}
use Rattle.gm_machine.proofs.TargetSteps.{comes-more, comes-all}
use Rattle.gm_machine.proofs.settling.next_place_of.Goals as goal

abbrev d : ContributionPart
d = record { place = 0; reduce = Sum; width = 0; slot = 0; value = I32 (pos 0) }

pub loop-i-preserved : goal.loop-i-preserved
loop-i-preserved c = record {
  at_most = omega (arith, c.nearer-next.ensures.at_most, c.loop-i.invariant.at_most);
  from_on = λ low. c.nearer-next.ensures.from_on (c.loop-i.invariant.from_on low);
  a_place = c.nearer-next.ensures.a_place c.args.bound c.loop-i.invariant.a_place;
  comes = comes-more c.args.from c.loop-i.next c.nearer-next.result (slots_in c.args.target.now) c.args.parts.now c.loop-i.i d c.loop-i-test.true c.nearer-next.ensures.at_most
      (λ s low high begun same. c.nearer-next.ensures.apart s low high (c.begins_at-counts.ensures ∙ begun) same) c.loop-i.invariant.comes;
}

pub returns-clause-none_before : goal.returns-clause-none_before
returns-clause-none_before c =
    let end : length c.args.parts.now ≤ c.loop-i.i = omega (arith, c.loop-i-test.false) in
    comes-all c.args.from c.loop-i.next (slots_in c.args.target.now) c.args.parts.now c.loop-i.i end c.loop-i.invariant.comes
