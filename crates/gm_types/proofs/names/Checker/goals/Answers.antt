use Rattle.std.proofs.Common.{◌≡◌, ◌+◌, ◌∷◌, false, List, ap, subst, map, drop, option_map}
use Rattle.gm_ast.specs.Surface.{SurfaceTarget}
use Rattle.gm_ast.specs.SurfaceTree.{target_of}
use Rattle.gm_ast.specs.Statements.{goal as judged_goal}
use Rattle.gm_types.specs.Shapes.{Walks}
use Rattle.gm_types.proofs.Items.{drop-item}
use Rattle.gm_types.proofs.Sequences.{walks-next}
use Rattle.std.proofs.lemmas.Result.{IfOk-from_err}
use Rattle.gm_types.proofs.names.Checker.goals.Goals as goal

pub loop-target-preserved : goal.loop-target-preserved
loop-target-preserved c =
    let targets = c.args.targets.now in
    let i = c.loop-target.target-index in
    let item = c.target-item.result in
    let rest : map target_of (drop i targets) ≡ target_of item ∷ map target_of (drop (i + 1) targets) = ap (map target_of) (drop-item targets i item c.loop-target-test.true c.target-item.is) in
    let w = subst (λ (r : List SurfaceTarget). Walks (judged_goal false) c.args.self.now c.loop-target.self (option_map (λ v. v.items) c.loop-target.held) (map target_of targets) r) rest c.loop-target.invariant in
    rw c.in_ok-held.ensures
    (walks-next (judged_goal false) (map target_of targets) (target_of item) (map target_of (drop (i + 1) targets)) w c.goal-goal.ensures)

pub returns-in_err-held : goal.returns-in_err-held
returns-in_err-held c = IfOk-from_err _ _ c.from_residual.ensures.0
