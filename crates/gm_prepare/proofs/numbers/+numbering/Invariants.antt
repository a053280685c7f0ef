use Rattle.std.proofs.Common.{◌≡◌, map}
use Rattle.gm_ast.specs.Tree.{stmt_of}
use Rattle.gm_parting.specs.Numbers.{count_ifs}
use Rattle.gm_prepare.proofs.Counted.{partly, counted_before}
use Rattle.gm_prepare.proofs.Walks.{numbered}
use Rattle.gm_prepare.proofs.numbers.+numbering.Given as goal

-- the Ifs of the statements before an index have their numbers, and are counted
abbrev pub invariant-number_block-loop-i : goal.invariant-number_block-loop-i
invariant-number_block-loop-i l = goal.unvisited-number_block-loop-i l
    × (map stmt_of l.stmts.items ≡ partly (numbered l.first) count_ifs l.i 0 (map stmt_of l.initial.stmts.items))
    × (l.count ≡ counted_before (numbered l.first) count_ifs l.i (map stmt_of l.initial.stmts.items))
