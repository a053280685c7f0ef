use Rattle.std.proofs.Common.{◌≡◌, drop, map}
use Rattle.gm_semantics.specs.Expressions.{evaluated_all}
use Rattle.gm_semantics.specs.Iterations.{target_value}
use Rattle.gm_loops.specs.Scopes.{no_scope}
use Rattle.gm_loops.specs.Sights.{view_of}
use Rattle.gm_loops.specs.Targets.{all_parts, followed}
use Rattle.gm_loops.proofs.sights.Sight.target_values.Given as goal

-- the targets so far, with those that are left, are all
abbrev pub invariant-loop-target : goal.invariant-loop-target
invariant-loop-target l =
    followed (all_parts l.all) (evaluated_all (map target_value (drop l.target-index l.targets)) (view_of l.self no_scope l.store))
    ≡ evaluated_all (map target_value l.targets) (view_of l.self no_scope l.store)
