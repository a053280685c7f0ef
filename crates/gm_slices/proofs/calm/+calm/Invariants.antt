use Rattle.std.proofs.Common.{◌≡◌, drop, map}
use Rattle.gm_ast.specs.Program.{sequence}
use Rattle.gm_ast.specs.Tree.{stmt_of}
use Rattle.gm_forms.specs.Cut.{is_calm}
use Rattle.gm_slices.proofs.calm.+calm.Given as goal

-- what is left of the block decides
abbrev pub invariant-are_calm-loop-stmt : goal.invariant-are_calm-loop-stmt
invariant-are_calm-loop-stmt l = is_calm l.fn.iterators (sequence (map stmt_of (drop l.stmt-index l.stmts.items))) ≡ is_calm l.fn.iterators (sequence (map stmt_of l.stmts.items))
