use Rattle.std.proofs.Common.{◌≡◌, drop, map}
use Rattle.std.specs.Prelude.{max}
use Rattle.gm_ast.specs.Program.{sequence}
use Rattle.gm_ast.specs.Tree.{stmt_of}
use Rattle.gm_lowering.specs.Layouts.{nesting}
use Rattle.gm_layouts.proofs.sizes.+nesting.Given as goal

-- the most so far, and of what is left
abbrev pub invariant-nesting_among-loop-stmt : goal.invariant-nesting_among-loop-stmt
invariant-nesting_among-loop-stmt l = max l.most (nesting (sequence (map stmt_of (drop l.stmt-index l.stmts.items)))) ≡ nesting (sequence (map stmt_of l.stmts.items))
