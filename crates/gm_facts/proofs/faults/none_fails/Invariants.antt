use Rattle.std.proofs.Common.{◌≡◌, drop, map}
use Rattle.std.specs.List.{list_all}
use Rattle.gm_ast.specs.Tree.{expr_of}
use Rattle.gm_forms.specs.Order.{cannot_fail}
use Rattle.gm_facts.proofs.faults.none_fails.Given as goal

-- the values that are left give the answer
abbrev pub invariant-loop-value : goal.invariant-loop-value
invariant-loop-value l = list_all cannot_fail (map expr_of (drop l.value-index l.values)) ≡ list_all cannot_fail (map expr_of l.values)
