use Rattle.std.proofs.Common.{◌≡◌, ◌++◌, drop, map}
use Rattle.gm_lowering.specs.Bodies.{target_spots}
use Rattle.gm_places.specs.Spots.{as_spot}
use Rattle.gm_places.proofs.spreads.add_target.Given as goal

-- what is there and what is left make the whole
abbrev pub invariant-loop-target : goal.invariant-loop-target
invariant-loop-target l =
    map as_spot l.spots.items ++ target_spots l.fn.iterators l.fn.key (drop l.target-index l.targets) ≡ map as_spot l.initial.spots.items ++ target_spots l.fn.iterators l.fn.key l.targets
