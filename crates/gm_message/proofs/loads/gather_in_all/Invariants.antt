use Rattle.std.proofs.Common.{◌≡◌, ◌++◌, drop, map}
use Rattle.gm_ast.specs.Tree.{expr_of}
use Rattle.gm_lowering.specs.Plans.{loads_in_all}
use Rattle.gm_message.specs.Views.{as_load}
use Rattle.gm_message.proofs.loads.gather_in_all.Given as goal

-- what is there and what is left make the whole
abbrev pub invariant-loop-value : goal.invariant-loop-value
invariant-loop-value l =
    map as_load l.loads.items ++ (loads_in_all l.fn.sender (map expr_of (drop l.value-index l.values)))
    ≡ map as_load l.initial.loads.items ++ (loads_in_all l.fn.sender (map expr_of l.values))
