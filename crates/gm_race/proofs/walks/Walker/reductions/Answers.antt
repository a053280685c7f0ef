use Rattle.std.proofs.Common.{ℕ, ◌+◌, List, refl, subst, drop, flat_map}
use Rattle.gm_ast.specs.declared.tree.Target.{Target}
use Rattle.gm_ast.specs.declared.accesses.Access.{Access}
use Rattle.gm_ast.specs.Accesses.{Around, reduced}
use Rattle.gm_race.specs.Views.{operation_of}
use Rattle.gm_race.specs.Walks.{Walks}
use Rattle.gm_race.proofs.Items.{drop-first}
use Rattle.gm_race.proofs.Walked.{walks-next}
use Rattle.gm_race.proofs.walks.Walker.reductions.Goals as goal

pub loop-target-preserved : goal.loop-target-preserved
loop-target-preserved c =
    let op = operation_of c.args.reduction in
    let ts = c.args.reduction.targets.now in
    let i = c.loop-target.target-index in
    let walked : List Target → Around → ℕ → List Access = λ us w n. flat_map (reduced w op) us in
    let rest = drop-first ts i _ c.loop-target-test.true in
    let w = subst (λ (r : List Target). Walks walked (λ us. 0) c.args.self.now c.loop-target.self ts r) rest c.loop-target.invariant in
    walks-next walked (λ us. 0) (λ t v n. reduced v op t) (λ t. 0) (λ x r v n. refl) (λ x r. refl) ts _ (drop (i + 1) ts) w c.in_ok-reduced.ensures
