use Rattle.std.proofs.Common.{◌≡◌, ◌+◌, map}
use Rattle.gm_ast.specs.Tree.{stmt_of}
use Rattle.gm_parting.specs.Apart.{apart}
use Rattle.gm_parting.specs.Numbers.{count_ifs}
use Rattle.gm_prepare.proofs.Counted.{partly, counted_before}
use Rattle.gm_dissecting.proofs.apart.+standing.Given as goal

-- the statements before an index stand apart, and their Ifs are counted
abbrev pub invariant-stand_all-loop-i : goal.invariant-stand_all-loop-i
invariant-stand_all-loop-i l = goal.unvisited-stand_all-loop-i l
    × (map stmt_of l.stmts.items ≡ partly (apart l.place) count_ifs l.i l.next (map stmt_of l.initial.stmts.items))
    × (l.so_far ≡ l.next + counted_before (apart l.place) count_ifs l.i (map stmt_of l.initial.stmts.items))
