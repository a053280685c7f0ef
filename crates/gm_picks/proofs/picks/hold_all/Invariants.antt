use Rattle.std.proofs.Common.{◌≡◌, ◌+◌, ◌++◌, map, drop}
use Rattle.gm_ast.specs.Tree.{stmt_of}
use Rattle.gm_picks.specs.Picks.{count_held, held_set}
use Rattle.gm_picks.proofs.picks.hold_all.Given as goal

-- what is set so far and what the targets that are left set are all, and so with the variables
abbrev pub invariant-loop-target : goal.invariant-loop-target
invariant-loop-target l = (map stmt_of l.set.items ++ held_set l.fn.around l.next l.fn.key (drop l.target-index l.targets) ≡ map stmt_of l.initial.set.items ++ held_set l.fn.around l.initial.next l.fn.key l.targets)
    × (l.next + count_held l.fn.around (drop l.target-index l.targets) ≡ l.initial.next + count_held l.fn.around l.targets)
