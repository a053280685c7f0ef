use Rattle.std.proofs.Common.{[], ◌∷◌, refl}
use Rattle.gm_picks.specs.Picks.{types_held}
use Rattle.gm_picks.proofs.Gathering.{gathered-more}
use Rattle.gm_picks.proofs.Steps.{no_target, types_held-step}
use Rattle.gm_picks.proofs.picks.types_held.Goals as goal

pub loop-target-preserved : goal.loop-target-preserved
loop-target-preserved c =
    let at = c.loop-target in
    let ds = c.args.declarations.now in
    let its = c.args.around.now in
    gathered-more (λ n t. types_held ds its (t ∷ [])) (λ t. 0) (λ n l. types_held ds its l) (λ n. refl) (λ n. types_held-step ds its) c.args.targets.now at.target-index no_target 0 0 at.types.items c.type_held.new.types.items _ c.loop-target-test.true at.invariant c.in_ok-type_held.ensures refl
