use Rattle.std.proofs.Common.{◌≡◌, ◌++◌, drop, map}
use Rattle.gm_ast.specs.Tree.{expr_of}
use Rattle.gm_trees.proofs.copies.copy_values.Given as goal

-- what is there and what is left make the whole
abbrev pub invariant-loop-value : goal.invariant-loop-value
invariant-loop-value l = map expr_of l.copies.items ++ map expr_of (drop l.value-index l.values) ≡ map expr_of l.values
