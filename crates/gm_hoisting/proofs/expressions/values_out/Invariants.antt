use Rattle.std.proofs.Common.{◌≡◌, ◌+◌, ◌++◌, length, map}
use Rattle.gm_ast.specs.Tree.{expr_of, stmt_of}
use Rattle.gm_hoisting.specs.Hoisting.{count_folds, told_from}
use Rattle.gm_hoisting.proofs.InTurn.{partly, counts_before, set_before}
use Rattle.gm_hoisting.proofs.expressions.values_out.Given as goal

abbrev pub invariant-loop-i : goal.invariant-loop-i
invariant-loop-i l = (length l.values.items ≡ length l.initial.values.items)
    × (map expr_of l.values.items ≡ partly told_from count_folds l.i l.fn.next (map expr_of l.initial.values.items))
    × (l.next ≡ l.fn.next + counts_before count_folds l.i (map expr_of l.initial.values.items))
    × (map stmt_of l.before.items ≡ map stmt_of l.fn.before.items ++ set_before l.fn.key l.i l.fn.next (map expr_of l.initial.values.items))
