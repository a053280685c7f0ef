use Rattle.std.proofs.Common.{◌≡◌, ◌+◌, map, drop}
use Rattle.gm_ast.specs.Procedures.{count_names}
use Rattle.gm_ast.specs.SurfaceTree.{group_of}
use Rattle.gm_types.proofs.procedures.count_names.Given as goal

-- the names so far and those of the groups that are left are all
abbrev pub invariant-loop-group : goal.invariant-loop-group
invariant-loop-group l = l.count + count_names (map group_of (drop l.group-index l.groups)) ≡ count_names (map group_of l.groups)
