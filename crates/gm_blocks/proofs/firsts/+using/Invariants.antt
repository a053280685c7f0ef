use Rattle.std.proofs.Common.{◌≡◌, drop, map}
use Rattle.gm_ast.specs.Program.{sequence}
use Rattle.gm_ast.specs.Tree.{stmt_of}
use Rattle.gm_lowering.specs.Blocks.{first_use}
use Rattle.gm_blocks.proofs.firsts.+using.Given as goal

-- the statements that are left give the answer
abbrev pub invariant-first_use_among-loop-stmt : goal.invariant-first_use_among-loop-stmt
invariant-first_use_among-loop-stmt l =
    first_use l.fn.variable (sequence (map stmt_of (drop l.stmt-index l.stmts.items))) ≡ first_use l.fn.variable (sequence (map stmt_of l.stmts.items))
