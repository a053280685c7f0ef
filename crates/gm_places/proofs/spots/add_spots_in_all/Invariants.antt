use Rattle.std.proofs.Common.{◌≡◌, ◌++◌, drop, map}
use Rattle.gm_ast.specs.Tree.{expr_of}
use Rattle.gm_lowering.specs.Places.{spots_in_all}
use Rattle.gm_places.specs.Spots.{as_spot}
use Rattle.gm_places.proofs.spots.add_spots_in_all.Given as goal

-- what is there and what is left make the whole
abbrev pub invariant-loop-value : goal.invariant-loop-value
invariant-loop-value l =
    map as_spot l.spots.items ++ spots_in_all (map expr_of (drop l.value-index l.values)) l.fn.key ≡ map as_spot l.initial.spots.items ++ spots_in_all (map expr_of l.values) l.fn.key
