use Rattle.std.proofs.Common.{◌≡◌, drop, map, max}
use Rattle.gm_ast.specs.Program.{sequence}
use Rattle.gm_ast.specs.Tree.{stmt_of}
use Rattle.gm_parting.specs.Numbers.{above_ifs}
use Rattle.gm_prepare.proofs.numbers.+bounding.Given as goal

-- the greater of what is there and what is left bounds the whole
abbrev pub invariant-above_all-loop-stmt : goal.invariant-above_all-loop-stmt
invariant-above_all-loop-stmt l = max l.above (above_ifs (sequence (map stmt_of (drop l.stmt-index l.stmts.items)))) ≡ above_ifs (sequence (map stmt_of l.stmts.items))
