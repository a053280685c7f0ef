use Rattle.std.proofs.Common.{◌≡◌, drop, map}
use Rattle.gm_ast.specs.Program.{sequence}
use Rattle.gm_ast.specs.Tree.{stmt_of}
use Rattle.gm_cut.specs.Parts.{each_passes}
use Rattle.gm_prepare.specs.Evenness.{is_even}
use Rattle.gm_prepare.proofs.tuples.+passing.Given as goal

-- what is left of the block decides
abbrev pub invariant-are_phases_even-loop-stmt : goal.invariant-are_phases_even-loop-stmt
invariant-are_phases_even-loop-stmt l =
    each_passes (is_even l.declarations) (sequence (map stmt_of (drop l.stmt-index l.stmts.items))) ≡ each_passes (is_even l.declarations) (sequence (map stmt_of l.stmts.items))
