use Rattle.std.proofs.Common.{◌≡◌, ◌++◌, map, drop}
use Rattle.gm_ast.specs.Program.{sequence}
use Rattle.gm_ast.specs.Tree.{stmt_of}
use Rattle.gm_hoisting.specs.Hoisting.{body_types}
use Rattle.gm_hoisting.proofs.locals.+typing.Given as goal

-- the types so far and those of the statements that are left are all
abbrev pub invariant-types_among-loop-stmt : goal.invariant-types_among-loop-stmt
invariant-types_among-loop-stmt l = l.types.items ++ body_types (sequence (map stmt_of (drop l.stmt-index l.stmts.items))) ≡ l.initial.types.items ++ body_types (sequence (map stmt_of l.stmts.items))
