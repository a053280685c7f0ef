use Rattle.std.proofs.Common.{◌≡◌, drop, map}
use Rattle.std.specs.List.{list_all}
use Rattle.gm_ast.specs.Keys.{total_fault}
use Rattle.gm_ast.specs.Tree.{expr_of}
use Rattle.gm_plain_loops.specs.Tests.{comes_behind}
use Rattle.gm_suits.proofs.reductions.comes_behind_all.Given as goal

-- the values that are left give the answer
abbrev pub invariant-loop-value : goal.invariant-loop-value
invariant-loop-value l = list_all (comes_behind (total_fault l.total) l.key) (map expr_of (drop l.value-index l.values)) ≡ list_all (comes_behind (total_fault l.total) l.key) (map expr_of l.values)
