use Rattle.std.proofs.Common.{◌≡◌, map, take}
use Rattle.gm_race.specs.Views.{access_of}
use Rattle.gm_race.proofs.listing.accesses_of.Given as goal

-- the accesses so far
abbrev pub invariant-loop-one : goal.invariant-loop-one
invariant-loop-one l = l.listed.items ≡ map access_of (take l.one-index l.found)
