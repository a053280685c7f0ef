use Rattle.std.proofs.Common.{◌≡◌, drop, map}
use Rattle.std.specs.Prelude.{◌&&◌, ◌||◌, not}
use Rattle.gm_ast.specs.Program.{sequence}
use Rattle.gm_ast.specs.Tree.{stmt_of}
use Rattle.gm_cut.specs.Own.{is_safe, adds_safely}
use Rattle.gm_cut.proofs.own.+lasting.Given as goal

-- what is left of the block decides, with what stands before it
abbrev pub invariant-all_add_safely-loop-stmt : goal.invariant-all_add_safely-loop-stmt
invariant-all_add_safely-loop-stmt l =
    adds_safely l.outer (sequence (map stmt_of (drop l.stmt-index l.stmts.items))) && (not l.adds || is_safe l.outer (sequence (map stmt_of (drop l.stmt-index l.stmts.items)))) ≡ adds_safely l.outer (sequence (map stmt_of l.stmts.items))
