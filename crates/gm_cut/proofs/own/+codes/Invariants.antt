use Rattle.std.proofs.Common.{◌≡◌, drop, map}
use Rattle.gm_ast.specs.Program.{sequence}
use Rattle.gm_ast.specs.Tree.{stmt_of}
use Rattle.gm_forms.specs.Cut.{is_own_code}
use Rattle.gm_cut.proofs.own.+codes.Given as goal

-- what is left of the block decides
abbrev pub invariant-own_codes-loop-stmt : goal.invariant-own_codes-loop-stmt
invariant-own_codes-loop-stmt l = is_own_code l.outer (sequence (map stmt_of (drop l.stmt-index l.stmts.items))) ≡ is_own_code l.outer (sequence (map stmt_of l.stmts.items))
