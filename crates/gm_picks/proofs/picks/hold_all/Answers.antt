use Rattle.std.proofs.Common.{◌≤◌, length, refl, map, arith}
use Rattle.gm_ast.specs.Tree.{stmt_of}
use Rattle.gm_picks.specs.Picks.{count_held, held_set}
use Rattle.gm_picks.proofs.Gathering.{gathered-more, gathered-all, counted-more, counted-all}
use Rattle.gm_picks.proofs.Steps.{no_target, one_held, one_set, held_set-step, count_held-step}
use Rattle.gm_picks.proofs.picks.hold_all.Goals as goal

pub loop-target-preserved : goal.loop-target-preserved
loop-target-preserved c =
    let at = c.loop-target in
    let k = c.args.key in
    let its = c.args.around.now in
    let ts = c.args.targets.now in
    let i = at.target-index in (
      gathered-more (one_set its k) (one_held its) (λ n l. held_set its n k l) (λ n. refl) (held_set-step its k) ts i no_target at.next c.hold.new.next (map stmt_of at.set.items) (map stmt_of c.hold.new.set.items) _ c.loop-target-test.true at.invariant.0 c.in_ok-hold.ensures.set c.in_ok-hold.ensures.next,
      counted-more (one_held its) (count_held its) refl (count_held-step its) ts i no_target at.next c.hold.new.next _ c.loop-target-test.true at.invariant.1 c.in_ok-hold.ensures.next,
    )

pub returns-clause-set : goal.returns-clause-set
returns-clause-set c =
    let at = c.loop-target in
    let k = c.args.key in
    let its = c.args.around.now in
    let end : length c.args.targets.now ≤ at.target-index = omega (arith, c.loop-target-test.false) in
    gathered-all (one_set its k) (one_held its) (λ n l. held_set its n k l) (λ n. refl) (held_set-step its k) c.args.targets.now at.target-index at.next (map stmt_of at.set.items) _ end at.invariant.0

pub returns-clause-next : goal.returns-clause-next
returns-clause-next c =
    let at = c.loop-target in
    let end : length c.args.targets.now ≤ at.target-index = omega (arith, c.loop-target-test.false) in
    counted-all (one_held c.args.around.now) (count_held c.args.around.now) refl (count_held-step c.args.around.now) c.args.targets.now at.target-index at.next _ end at.invariant.1
