use Rattle.std.proofs.Common.{◌≡◌, drop, map}
use Rattle.gm_ast.specs.Tree.{expr_of}
use Rattle.gm_slices.specs.Needs.{with_all_told}
use Rattle.gm_slices.specs.Sets.{set_of}
use Rattle.gm_slices.proofs.needs.tell_all.Given as goal

-- what is left of the values makes the same of what is there
abbrev pub invariant-loop-value : goal.invariant-loop-value
invariant-loop-value l = with_all_told (map expr_of (drop l.value-index l.values)) (set_of l.needs) ≡ with_all_told (map expr_of l.values) (set_of l.initial.needs)
