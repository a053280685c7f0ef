use Rattle.std.proofs.Common.{◌≡◌, drop, map}
use Rattle.std.specs.List.{list_any}
use Rattle.gm_ast.specs.Tree.{expr_of}
use Rattle.gm_lowering.specs.Blocks.{reads_scalar}
use Rattle.gm_blocks.proofs.firsts.some_reads.Given as goal

-- the values that are left give the answer
abbrev pub invariant-loop-value : goal.invariant-loop-value
invariant-loop-value l =
    list_any (reads_scalar l.fn.variable) (map expr_of (drop l.value-index l.values)) ≡ list_any (reads_scalar l.fn.variable) (map expr_of l.values)
