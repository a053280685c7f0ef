use Rattle.std.proofs.Common.{◌≡◌, cond, drop, map}
use Rattle.gm_ast.specs.Program.{sequence}
use Rattle.gm_ast.specs.Tree.{stmt_of}
use Rattle.gm_outward.specs.Gathered.{is_idle, is_one_reduction}
use Rattle.gm_outward.proofs.gathered.+lone.Given as goal

-- what is left of the block decides: behind the reduction nothing may be done
abbrev pub invariant-are_lone-loop-stmt : goal.invariant-are_lone-loop-stmt
invariant-are_lone-loop-stmt l =
    let rest = sequence (map stmt_of (drop l.stmt-index l.stmts.items)) in
    cond l.found (is_idle rest) (is_one_reduction rest) ≡ is_one_reduction (sequence (map stmt_of l.stmts.items))
