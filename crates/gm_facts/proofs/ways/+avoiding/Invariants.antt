use Rattle.std.proofs.Common.{◌≡◌, drop, map}
use Rattle.gm_ast.specs.Program.{sequence}
use Rattle.gm_ast.specs.Tree.{stmt_of}
use Rattle.gm_forms.specs.Forms.{avoids}
use Rattle.gm_facts.proofs.ways.+avoiding.Given as goal

-- what is left of the block decides
abbrev pub invariant-all_avoid-loop-stmt : goal.invariant-all_avoid-loop-stmt
invariant-all_avoid-loop-stmt l = avoids l.fn.iterator (sequence (map stmt_of (drop l.stmt-index l.stmts.items))) ≡ avoids l.fn.iterator (sequence (map stmt_of l.stmts.items))
