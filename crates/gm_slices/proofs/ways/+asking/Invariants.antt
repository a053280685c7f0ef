use Rattle.std.proofs.Common.{◌≡◌, drop, map}
use Rattle.gm_ast.specs.Program.{sequence}
use Rattle.gm_ast.specs.Tree.{stmt_of}
use Rattle.gm_cut.specs.Parts.{each_passes}
use Rattle.gm_slices.specs.OneWay.{inner_loop_goes}
use Rattle.gm_slices.proofs.ways.+asking.Given as goal

-- what is left of the block decides
abbrev pub invariant-all_go-loop-stmt : goal.invariant-all_go-loop-stmt
invariant-all_go-loop-stmt l =
    each_passes (inner_loop_goes l.fn.declarations) (sequence (map stmt_of (drop l.stmt-index l.stmts.items))) ≡ each_passes (inner_loop_goes l.fn.declarations) (sequence (map stmt_of l.stmts.items))
