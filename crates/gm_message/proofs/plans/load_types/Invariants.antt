use Rattle.std.proofs.Common.{◌≡◌, ◌++◌, drop, map}
use Rattle.gm_lowering.specs.Plans.{load_type}
use Rattle.gm_message.specs.Views.{as_load}
use Rattle.gm_message.proofs.plans.load_types.Given as goal

-- what is there and what is left make the whole
abbrev pub invariant-loop-load : goal.invariant-loop-load
invariant-loop-load l =
    l.types.items ++ map (load_type l.fn.declarations) (map as_load (drop l.load-index l.loads)) ≡ map (load_type l.fn.declarations) (map as_load l.loads)
