use Rattle.std.proofs.Common.{◌≡◌, [], drop, map}
use Rattle.gm_message.specs.Gathered.{gathered}
use Rattle.gm_message.specs.Views.{as_load}
use Rattle.gm_message.proofs.loads.each_once.Given as goal

-- what is there and what is left make the whole
abbrev pub invariant-loop-load : goal.invariant-loop-load
invariant-loop-load l = gathered (map as_load l.found.items) (map as_load (drop l.load-index l.loads)) ≡ gathered [] (map as_load l.loads)
