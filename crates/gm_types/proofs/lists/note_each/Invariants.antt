use Rattle.std.proofs.Common.{◌≡◌, [], map, drop, take}
use Rattle.gm_base.specs.Rules.{least_from}
use Rattle.gm_ast.specs.Statements.{apart}
use Rattle.gm_ast.specs.SurfaceTree.{target_of}
use Rattle.gm_types.specs.OwnNames.{HasNames}
use Rattle.gm_types.proofs.lists.note_each.Given as goal

-- what is left to note leads from the least so far to the answer, and the names are those of the targets so far
abbrev pub invariant-loop-target : goal.invariant-loop-target
invariant-loop-target l =
    (least_from l.least (apart (target_of l.first) (map target_of (take l.target-index l.targets)) (map target_of (drop l.target-index l.targets)))
    ≡ least_from l.initial.least (apart (target_of l.first) [] (map target_of l.targets)))
    × HasNames (target_of l.first) l.names (map target_of (take l.target-index l.targets))
