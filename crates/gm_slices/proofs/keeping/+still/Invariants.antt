use Rattle.std.proofs.Common.{◌≡◌, drop, map}
use Rattle.gm_ast.specs.Program.{sequence}
use Rattle.gm_ast.specs.Tree.{stmt_of}
use Rattle.gm_loop_laws.specs.Resumed.{is_still}
use Rattle.gm_slices.proofs.keeping.+still.Given as goal

-- what is left of the block decides
abbrev pub invariant-all_still-loop-stmt : goal.invariant-all_still-loop-stmt
invariant-all_still-loop-stmt l = is_still l.fn.iterators (sequence (map stmt_of (drop l.stmt-index l.stmts.items))) ≡ is_still l.fn.iterators (sequence (map stmt_of l.stmts.items))
