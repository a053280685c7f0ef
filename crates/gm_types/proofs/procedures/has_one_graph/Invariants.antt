use Rattle.std.proofs.Common.{◌≡◌, ◌+◌, map, drop}
use Rattle.gm_ast.specs.Procedures.{count_graphs}
use Rattle.gm_ast.specs.SurfaceTree.{group_of}
use Rattle.gm_types.proofs.procedures.has_one_graph.Given as goal

-- the graphs so far and those of the groups that are left are all
abbrev pub invariant-loop-group : goal.invariant-loop-group
invariant-loop-group l = l.count + count_graphs (map group_of (drop l.group-index l.groups)) ≡ count_graphs (map group_of l.groups)
