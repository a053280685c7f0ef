use Rattle.std.proofs.Common.{◌≡◌, ◌++◌, map, drop}
use Rattle.gm_ast.specs.Program.{sequence}
use Rattle.gm_ast.specs.Tree.{stmt_of}
use Rattle.gm_hoisting.specs.Hoisting.{phase_added}
use Rattle.gm_hoisting.proofs.locals.+adding.Given as goal

-- the table so far and the variables of the statements that are left are all
abbrev pub invariant-added_among-loop-stmt : goal.invariant-added_among-loop-stmt
invariant-added_among-loop-stmt l =
    l.declarations.items ++ phase_added l.fn.around (sequence (map stmt_of (drop l.stmt-index l.stmts.items))) ≡ l.initial.declarations.items ++ phase_added l.fn.around (sequence (map stmt_of l.stmts.items))
