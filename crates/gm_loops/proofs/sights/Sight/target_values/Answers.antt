use Rattle.std.proofs.Common.{◌≡◌, ◌∙◌, ◌+◌, drop, get_or, map, refl, ap}
use Rattle.gm_ast.specs.declared.tree.Target.{Target}
use Rattle.gm_semantics.specs.Expressions.{View, evaluated, evaluated_all}
use Rattle.gm_semantics.specs.Iterations.{target_value}
use Rattle.gm_loops.specs.Scopes.{no_scope}
use Rattle.gm_loops.specs.Sights.{view_of}
use Rattle.gm_loops.specs.Parts.{parts}
use Rattle.gm_loops.specs.Targets.{all_parts, followed}
use Rattle.gm_loops.proofs.Together.{followed-next}
use Rattle.gm_loops.proofs.sights.Sight.target_values.Goals as goal

pub loop-target-preserved : goal.loop-target-preserved
loop-target-preserved c =
    let w : View = view_of c.args.self.now no_scope c.args.store.now in
    let ts = c.args.targets.now in
    let i = c.loop-target.target-index in
    ap (λ a. followed a (evaluated_all (map target_value (drop (i + 1) ts)) w)) c.in_ok-all.ensures
    ∙ followed-next (λ (t : Target). evaluated (target_value t) w) (λ xs. evaluated_all (map target_value xs) w) (λ x xs. refl)
    (all_parts c.loop-target.all) ts i _ (parts c.target_value.result) (evaluated_all (map target_value ts) w) c.loop-target-test.true c.target_value.ensures c.loop-target.invariant
