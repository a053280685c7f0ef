use Rattle.std.proofs.Common.{◌≡◌, drop, length, map}
use Rattle.std.specs.Prelude.{◌+◌}
use Rattle.gm_ast.specs.Program.{sequence}
use Rattle.gm_ast.specs.Tree.{stmt_of}
use Rattle.gm_layouts.specs.Where.{where_of}
use Rattle.gm_lowering.specs.Lowered.{both, part}
use Rattle.gm_lowering.specs.Plans.{kinds_in}
use Rattle.gm_masters.specs.Parts.{as_at, as_frame, as_part, past_by}
use Rattle.gm_masters.proofs.phases.+phases.Given as goal

-- the part so far and that of the statements that are left make the whole
abbrev pub invariant-block_part-loop-stmt : goal.invariant-block_part-loop-stmt
invariant-block_part-loop-stmt l =
    let w = as_frame l.fn.frame in
    let at = as_at l.fn.at in
    let ds = (where_of l.fn.frame.layout.now).declarations in
    (both (as_part l.part) (part w (sequence (map stmt_of (drop l.stmt-index l.stmts.items))) (past_by at (as_part l.part) l.part.kinds))
    ≡ part w (sequence (map stmt_of l.stmts.items)) at)
    × (l.part.kinds + length (kinds_in ds (sequence (map stmt_of (drop l.stmt-index l.stmts.items)))) ≡ length (kinds_in ds (sequence (map stmt_of l.stmts.items))))
