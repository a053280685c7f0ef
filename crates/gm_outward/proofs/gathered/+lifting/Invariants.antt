use Rattle.std.proofs.Common.{◌≡◌, drop, map}
use Rattle.gm_ast.specs.Program.{sequence}
use Rattle.gm_ast.specs.Tree.{stmt_of}
use Rattle.gm_outward.specs.Gathered.{conditions, reduction}
use Rattle.gm_outward.proofs.gathered.+lifting.Given as goal

-- nothing was taken yet, and what is left of the block has its conditions and its reduction
abbrev pub invariant-lift_block-loop-i : goal.invariant-lift_block-loop-i
invariant-lift_block-loop-i l =
    let all = map stmt_of l.initial.stmts.items in
    let rest = map stmt_of (drop l.i l.stmts.items) in
    (l.stmts.items ≡ l.initial.stmts.items) × (conditions (sequence rest) ≡ conditions (sequence all)) × (reduction (sequence rest) ≡ reduction (sequence all))
