use Rattle.std.proofs.Common.{◌≡◌, drop, map, max}
use Rattle.gm_ast.specs.Program.{sequence}
use Rattle.gm_ast.specs.Tree.{stmt_of}
use Rattle.gm_parting.specs.Apart.{most_ifs}
use Rattle.gm_dissecting.proofs.apart.+bounding.Given as goal

-- the greater of what is there and what is left bounds the whole
abbrev pub invariant-most_of_all-loop-stmt : goal.invariant-most_of_all-loop-stmt
invariant-most_of_all-loop-stmt l = max l.most (most_ifs (sequence (map stmt_of (drop l.stmt-index l.stmts.items)))) ≡ most_ifs (sequence (map stmt_of l.stmts.items))
