use Rattle.std.proofs.Common.{◌≡◌, drop, map}
use Rattle.std.specs.List.{list_any}
use Rattle.gm_lowering.specs.Plans.{same_load}
use Rattle.gm_message.specs.Views.{as_load}
use Rattle.gm_message.proofs.loads.is_among.Given as goal

-- the loads that are left give the answer
abbrev pub invariant-loop-load : goal.invariant-loop-load
invariant-loop-load l = list_any (same_load (as_load l.fn.wanted)) (map as_load (drop l.load-index l.loads)) ≡ list_any (same_load (as_load l.fn.wanted)) (map as_load l.loads)
