use Rattle.std.proofs.Common.{◌≡◌, ◌++◌, map, drop}
use Rattle.gm_ast.specs.Program.{sequence}
use Rattle.gm_ast.specs.Tree.{stmt_of}
use Rattle.gm_picks.specs.Picks.{types_picked}
use Rattle.gm_picks.proofs.picks.+typing.Given as goal

-- the types so far and those of the statements that are left are all
abbrev pub invariant-types_among-loop-stmt : goal.invariant-types_among-loop-stmt
invariant-types_among-loop-stmt l =
    l.types.items ++ types_picked l.declarations l.fn.around (sequence (map stmt_of (drop l.stmt-index l.stmts.items))) ≡ l.initial.types.items ++ types_picked l.declarations l.fn.around (sequence (map stmt_of l.stmts.items))
