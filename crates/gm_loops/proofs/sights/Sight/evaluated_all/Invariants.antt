use Rattle.std.proofs.Common.{◌≡◌, drop, map}
use Rattle.gm_ast.specs.Tree.{expr_of}
use Rattle.gm_semantics.specs.Expressions.{evaluated_all}
use Rattle.gm_loops.specs.Scopes.{no_scope}
use Rattle.gm_loops.specs.Sights.{view_of}
use Rattle.gm_loops.specs.Targets.{all_parts, followed}
use Rattle.gm_loops.proofs.sights.Sight.evaluated_all.Given as goal

-- the expressions so far, with those that are left, are all
abbrev pub invariant-loop-e : goal.invariant-loop-e
invariant-loop-e l =
    followed (all_parts l.all) (evaluated_all (map expr_of (drop l.e-index l.es)) (view_of l.self no_scope l.store))
    ≡ evaluated_all (map expr_of l.es) (view_of l.self no_scope l.store)
