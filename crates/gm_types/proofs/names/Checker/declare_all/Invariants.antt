use Rattle.std.proofs.Common.{map, drop}
use Rattle.gm_ast.specs.SurfaceTree.{name_of}
use Rattle.gm_types.specs.Declaring.{Declaring}
use Rattle.gm_types.proofs.names.Checker.declare_all.Given as goal

-- the names so far are declared
abbrev pub invariant-loop-name : goal.invariant-loop-name
invariant-loop-name l = Declaring l.variable l.initial.self l.self l.indices.items (map name_of l.names) (map name_of (drop l.name-index l.names))
