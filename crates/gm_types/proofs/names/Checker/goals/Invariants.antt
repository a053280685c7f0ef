use Rattle.std.proofs.Common.{false, map, drop, option_map}
use Rattle.gm_ast.specs.SurfaceTree.{target_of}
use Rattle.gm_ast.specs.Statements.{goal as judged_goal}
use Rattle.gm_types.specs.Shapes.{Walks}
use Rattle.gm_types.proofs.names.Checker.goals.Given as goal

-- the targets so far are judged
abbrev pub invariant-loop-target : goal.invariant-loop-target
invariant-loop-target l = Walks (judged_goal false) l.initial.self l.self (option_map (λ v. v.items) l.held) (map target_of l.targets) (map target_of (drop l.target-index l.targets))
