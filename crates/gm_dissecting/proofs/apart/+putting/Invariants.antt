use Rattle.std.proofs.Common.{◌≡◌, map}
use Rattle.gm_ast.specs.Tree.{stmt_of}
use Rattle.gm_dissect.proofs.Partly.{partly}
use Rattle.gm_dissecting.specs.Standing.{condition}
use Rattle.gm_parting.specs.Apart.{under}
use Rattle.gm_dissecting.proofs.apart.+putting.Given as goal

-- the statements before an index stand under the condition
abbrev pub invariant-put_all_under-loop-i : goal.invariant-put_all_under-loop-i
invariant-put_all_under-loop-i l =
    goal.unvisited-put_all_under-loop-i l × (map stmt_of l.stmts.items ≡ partly (under l.key (condition l.saved.holds l.saved.variable l.saved.place)) l.i (map stmt_of l.initial.stmts.items))
