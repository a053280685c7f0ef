use Rattle.std.proofs.Common.{◌≤◌, length, refl, map, arith}
use Rattle.gm_ast.specs.Tree.{stmt_of}
use Rattle.gm_picks.specs.Picks.{written_back}
use Rattle.gm_picks.proofs.Gathering.{gathered-more, gathered-all}
use Rattle.gm_picks.proofs.Steps.{no_target, one_held, one_back, written_back-step}
use Rattle.gm_picks.proofs.picks.write_all_back.Goals as goal

pub loop-target-preserved : goal.loop-target-preserved
loop-target-preserved c =
    let at = c.loop-target in
    let k = c.args.key in
    let its = c.args.around.now in
    gathered-more (one_back its k) (one_held its) (λ n l. written_back its n k l) (λ n. refl) (written_back-step its k) c.args.targets.now at.target-index no_target at.next c.write_back.new.next (map stmt_of at.set.items) (map stmt_of c.write_back.new.set.items) _ c.loop-target-test.true at.invariant c.in_ok-write_back.ensures.set c.in_ok-write_back.ensures.next

pub returns : goal.returns
returns c =
    let at = c.loop-target in
    let k = c.args.key in
    let its = c.args.around.now in
    let end : length c.args.targets.now ≤ at.target-index = omega (arith, c.loop-target-test.false) in
    gathered-all (one_back its k) (one_held its) (λ n l. written_back its n k l) (λ n. refl) (written_back-step its k) c.args.targets.now at.target-index at.next (map stmt_of at.set.items) _ end at.invariant
