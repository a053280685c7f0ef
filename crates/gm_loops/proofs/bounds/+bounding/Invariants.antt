use Rattle.std.proofs.Common.{◌≡◌, drop, map}
use Rattle.std.specs.Prelude.{max}
use Rattle.gm_ast.specs.Program.{sequence}
use Rattle.gm_ast.specs.Tree.{stmt_of}
use Rattle.gm_loops.specs.Bounds.{bound_of}
use Rattle.gm_loops.proofs.bounds.+bounding.Given as goal

-- the bound so far, with that of the statements that are left, is the bound of all
abbrev pub invariant-bound_of_all-loop-stmt : goal.invariant-bound_of_all-loop-stmt
invariant-bound_of_all-loop-stmt l = max l.bound (bound_of (sequence (map stmt_of (drop l.stmt-index l.stmts.items)))) ≡ bound_of (sequence (map stmt_of l.stmts.items))
