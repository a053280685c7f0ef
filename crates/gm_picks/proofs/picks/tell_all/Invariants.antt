use Rattle.std.proofs.Common.{◌≡◌, ◌+◌, map}
use Rattle.gm_ast.specs.Tree.{expr_of}
use Rattle.gm_desugar.specs.Reads.{count_read, told_from}
use Rattle.gm_picks.proofs.InPlace.{partly, counted_before}
use Rattle.gm_picks.proofs.picks.tell_all.Given as goal

-- the values before an index are told, and their variables are given out
abbrev pub invariant-loop-i : goal.invariant-loop-i
invariant-loop-i l = (map expr_of l.values.items ≡ partly told_from count_read l.i l.fn.next (map expr_of l.initial.values.items))
    × (l.next ≡ l.fn.next + counted_before told_from count_read l.i (map expr_of l.initial.values.items))
