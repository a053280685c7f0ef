use Rattle.std.proofs.Common.{◌≡◌, drop, map}
use Rattle.gm_ast.specs.Program.{sequence}
use Rattle.gm_ast.specs.Tree.{stmt_of}
use Rattle.gm_cut.specs.Parts.{each_passes}
use Rattle.gm_prepare.specs.Numbered.{is_numbered}
use Rattle.gm_prepare.proofs.numbers.+asking.Given as goal

-- what is left of the block decides
abbrev pub invariant-all_numbered-loop-stmt : goal.invariant-all_numbered-loop-stmt
invariant-all_numbered-loop-stmt l = each_passes is_numbered (sequence (map stmt_of (drop l.stmt-index l.stmts.items))) ≡ each_passes is_numbered (sequence (map stmt_of l.stmts.items))
