use Rattle.std.proofs.Common.{◌≡◌, drop, map}
use Rattle.std.specs.List.{list_all}
use Rattle.gm_ast.specs.Tree.{expr_of}
use Rattle.gm_loops.specs.Asking.{reads_outward}
use Rattle.gm_loops.proofs.asking.read_outward.Given as goal

-- the values that are left give the answer
abbrev pub invariant-loop-value : goal.invariant-loop-value
invariant-loop-value l = list_all reads_outward (map expr_of (drop l.value-index l.values)) ≡ list_all reads_outward (map expr_of l.values)
