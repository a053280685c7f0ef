use Rattle.std.proofs.Common.{◌≡◌, ◌+◌, ◌++◌, map, drop}
use Rattle.gm_ast.specs.Tree.{expr_of, stmt_of}
use Rattle.gm_picks.specs.Picks.{count_all, all_set}
use Rattle.gm_picks.proofs.picks.set_reads.Given as goal

-- what is set so far and what the values that are left set are all, and so with the variables
abbrev pub invariant-loop-value : goal.invariant-loop-value
invariant-loop-value l = (map stmt_of l.set.items ++ all_set l.next l.fn.key (map expr_of (drop l.value-index l.values)) ≡ map stmt_of l.initial.set.items ++ all_set l.initial.next l.fn.key (map expr_of l.values))
    × (l.next + count_all (map expr_of (drop l.value-index l.values)) ≡ l.initial.next + count_all (map expr_of l.values))
