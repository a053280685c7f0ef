use Rattle.std.proofs.Common.{◌≡◌, drop, map}
use Rattle.gm_ast.specs.Program.{sequence}
use Rattle.gm_ast.specs.Tree.{stmt_of}
use Rattle.gm_forms.specs.Cut.{adds_elsewhere}
use Rattle.gm_slices.proofs.calm.+adding.Given as goal

-- what is left of the block decides
abbrev pub invariant-any_adds-loop-stmt : goal.invariant-any_adds-loop-stmt
invariant-any_adds-loop-stmt l = adds_elsewhere l.fn.iterators (sequence (map stmt_of (drop l.stmt-index l.stmts.items))) ≡ adds_elsewhere l.fn.iterators (sequence (map stmt_of l.stmts.items))
