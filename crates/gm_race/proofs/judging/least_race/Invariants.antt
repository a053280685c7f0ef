use Rattle.std.proofs.Common.{◌≡◌, map, flat_map, drop}
use Rattle.gm_base.specs.Rules.{least, least_from}
use Rattle.gm_ast.specs.Races.{races_at, races_among}
use Rattle.gm_race.specs.Views.{access_of}
use Rattle.gm_race.proofs.judging.least_race.Given as goal

-- what is left to judge leads from the least so far to the answer
abbrev pub invariant-loop-access : goal.invariant-loop-access
invariant-loop-access l =
    least_from l.least (flat_map (races_at l.declarations (map access_of l.found)) (map access_of (drop l.access-index l.found))) ≡ least (races_among l.declarations (map access_of l.found))
