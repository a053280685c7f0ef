use Rattle.std.proofs.Common.{map, drop}
use Rattle.gm_ast.specs.SurfaceTree.{group_of}
use Rattle.gm_types.specs.Notes.{Noting}
use Rattle.gm_types.proofs.names.Checker.note_types.Given as goal

-- the types of the groups so far are judged
abbrev pub invariant-loop-group : goal.invariant-loop-group
invariant-loop-group l = Noting l.role l.initial.self l.self (map group_of l.groups) (map group_of (drop l.group-index l.groups))
