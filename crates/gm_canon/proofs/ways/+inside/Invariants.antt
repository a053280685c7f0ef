use Rattle.std.proofs.Common.{◌≡◌, ◌++◌, map, drop}
use Rattle.gm_ast.specs.Canonical.{ways_inside}
use Rattle.gm_ast.specs.Program.{sequence}
use Rattle.gm_ast.specs.Tree.{stmt_of}
use Rattle.gm_canon.proofs.ways.+inside.Given as goal

-- the ways so far and those of the statements that are left are all
abbrev pub invariant-block_inside-loop-stmt : goal.invariant-block_inside-loop-stmt
invariant-block_inside-loop-stmt l =
    l.ways.items ++ ways_inside (sequence (map stmt_of (drop l.stmt-index l.stmts.items))) ≡ l.initial.ways.items ++ ways_inside (sequence (map stmt_of l.stmts.items))
