use Rattle.std.proofs.Common.{◌∙◌, ◌≤◌, ◌++◌, length, refl, ap, arith}
use Rattle.gm_picks.specs.Picks.{count_held, held}
use Rattle.gm_picks.proofs.Gathering.{gathered-more, gathered-all, counted-more, counted-all}
use Rattle.gm_picks.proofs.Steps.{no_target, one_held, one_scalar, held-step, count_held-step}
use Rattle.gm_picks.proofs.picks.holders.Goals as goal

pub loop-target-preserved : goal.loop-target-preserved
loop-target-preserved c =
    let at = c.loop-target in
    let its = c.args.around.now in
    let ts = c.args.targets.now in
    let i = at.target-index in (
      gathered-more (one_scalar its) (one_held its) (held its) (λ n. refl) (held-step its) ts i no_target at.next c.holder.new.next at.scalars.items c.push.new.self.items _ c.loop-target-test.true at.invariant.0 (c.in_ok-push.ensures.items ∙ ap (λ l. at.scalars.items ++ l) c.in_ok-holder.ensures.held) c.in_ok-holder.ensures.next,
      counted-more (one_held its) (count_held its) refl (count_held-step its) ts i no_target at.next c.holder.new.next _ c.loop-target-test.true at.invariant.1 c.in_ok-holder.ensures.next,
    )

pub returns-clause-held : goal.returns-clause-held
returns-clause-held c =
    let at = c.loop-target in
    let end : length c.args.targets.now ≤ at.target-index = omega (arith, c.loop-target-test.false) in
    gathered-all (one_scalar c.args.around.now) (one_held c.args.around.now) (held c.args.around.now) (λ n. refl) (held-step c.args.around.now) c.args.targets.now at.target-index at.next at.scalars.items _ end at.invariant.0

pub returns-clause-next : goal.returns-clause-next
returns-clause-next c =
    let at = c.loop-target in
    let end : length c.args.targets.now ≤ at.target-index = omega (arith, c.loop-target-test.false) in
    counted-all (one_held c.args.around.now) (count_held c.args.around.now) refl (count_held-step c.args.around.now) c.args.targets.now at.target-index at.next _ end at.invariant.1
