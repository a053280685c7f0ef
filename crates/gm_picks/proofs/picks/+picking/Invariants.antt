use Rattle.std.proofs.Common.{◌≡◌, ◌+◌, map}
use Rattle.gm_ast.specs.Tree.{stmt_of}
use Rattle.gm_picks.specs.Picks.{count_picks, onto_scalars}
use Rattle.gm_picks.proofs.InPlace.{partly, counted_before}
use Rattle.gm_picks.proofs.picks.+picking.Given as goal

-- the statements before an index are changed, and their variables are given out
abbrev pub invariant-pick_block-loop-i : goal.invariant-pick_block-loop-i
invariant-pick_block-loop-i l = goal.unvisited-pick_block-loop-i l
    × (map stmt_of l.stmts.items ≡ partly (onto_scalars l.fn.around) (count_picks l.fn.around) l.i l.fn.next (map stmt_of l.initial.stmts.items))
    × (l.next ≡ l.fn.next + counted_before (onto_scalars l.fn.around) (count_picks l.fn.around) l.i (map stmt_of l.initial.stmts.items))
