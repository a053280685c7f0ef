use Rattle.std.proofs.Common.{◌≡◌, ◌++◌, map, drop}
use Rattle.gm_ast.specs.Canonical.{ways_in}
use Rattle.gm_ast.specs.Program.{sequence}
use Rattle.gm_ast.specs.Tree.{stmt_of}
use Rattle.gm_canon.proofs.ways.+outside.Given as goal

-- the ways so far and those of the statements that are left are all
abbrev pub invariant-block_in-loop-stmt : goal.invariant-block_in-loop-stmt
invariant-block_in-loop-stmt l =
    l.ways.items ++ ways_in (sequence (map stmt_of (drop l.stmt-index l.stmts.items))) ≡ l.initial.ways.items ++ ways_in (sequence (map stmt_of l.stmts.items))
