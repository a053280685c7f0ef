use Rattle.std.proofs.Common.{◌≡◌, drop, map}
use Rattle.gm_ast.specs.Program.{sequence}
use Rattle.gm_ast.specs.Tree.{stmt_of}
use Rattle.gm_forms.specs.Cut.{is_own_body}
use Rattle.gm_cut.proofs.own.+bodies.Given as goal

-- what is left of the block decides
abbrev pub invariant-own_bodies-loop-stmt : goal.invariant-own_bodies-loop-stmt
invariant-own_bodies-loop-stmt l = is_own_body l.outer (sequence (map stmt_of (drop l.stmt-index l.stmts.items))) ≡ is_own_body l.outer (sequence (map stmt_of l.stmts.items))
