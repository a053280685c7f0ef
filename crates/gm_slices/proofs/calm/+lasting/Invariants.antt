use Rattle.std.proofs.Common.{◌≡◌, drop, map}
use Rattle.std.specs.Prelude.{◌&&◌, ◌||◌, not}
use Rattle.gm_ast.specs.Program.{sequence}
use Rattle.gm_ast.specs.Tree.{stmt_of}
use Rattle.gm_forms.specs.Cut.{is_calm, adds_last}
use Rattle.gm_slices.proofs.calm.+lasting.Given as goal

-- what is left of the block decides, with what stands before it
abbrev pub invariant-all_add_last-loop-stmt : goal.invariant-all_add_last-loop-stmt
invariant-all_add_last-loop-stmt l =
    adds_last l.fn.iterators (sequence (map stmt_of (drop l.stmt-index l.stmts.items))) && (not l.adds || is_calm l.fn.iterators (sequence (map stmt_of (drop l.stmt-index l.stmts.items)))) ≡ adds_last l.fn.iterators (sequence (map stmt_of l.stmts.items))
