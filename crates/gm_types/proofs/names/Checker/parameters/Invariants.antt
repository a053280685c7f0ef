use Rattle.std.proofs.Common.{map, drop}
use Rattle.gm_ast.specs.SurfaceTree.{group_of}
use Rattle.gm_types.specs.Declaring.{Grouping}
use Rattle.gm_types.proofs.names.Checker.parameters.Given as goal

-- the parameters of the groups so far are declared
abbrev pub invariant-loop-group : goal.invariant-loop-group
invariant-loop-group l = Grouping l.initial.self l.self (map group_of l.groups) (map group_of (drop l.group-index l.groups))
