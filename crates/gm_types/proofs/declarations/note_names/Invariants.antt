use Rattle.std.proofs.Common.{◌≡◌, map, drop}
use Rattle.gm_base.specs.Rules.{least_from, broken_at}
use Rattle.gm_ast.specs.SurfaceTree.{name_of}
use Rattle.gm_types.proofs.declarations.note_names.Given as goal

-- what is left to note leads from the least so far to the answer
abbrev pub invariant-loop-name : goal.invariant-loop-name
invariant-loop-name l =
    least_from l.least (map (λ x. broken_at l.rule x.place) (map name_of (drop l.name-index l.names))) ≡ least_from l.initial.least (map (λ x. broken_at l.rule x.place) (map name_of l.names))
