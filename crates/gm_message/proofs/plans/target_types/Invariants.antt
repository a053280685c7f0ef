use Rattle.std.proofs.Common.{◌≡◌, ◌++◌, drop, map}
use Rattle.gm_forms.specs.Typing.{target_type}
use Rattle.gm_message.proofs.plans.target_types.Given as goal

-- what is there and what is left make the whole
abbrev pub invariant-loop-target : goal.invariant-loop-target
invariant-loop-target l =
    l.types.items ++ map (target_type l.fn.declarations) (drop l.target-index l.targets) ≡ map (target_type l.fn.declarations) l.targets
