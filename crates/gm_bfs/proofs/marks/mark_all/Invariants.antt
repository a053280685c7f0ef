use Rattle.std.proofs.Common.{◌≡◌, drop, map}
use Rattle.gm_ast.specs.Tree.{expr_of}
use Rattle.gm_bfs.specs.Copies.{mark_all}
use Rattle.gm_bfs.proofs.marks.mark_all.Given as goal

-- what is left of the values, after what was marked, gives what all of them do
abbrev pub invariant-loop-value : goal.invariant-loop-value
invariant-loop-value l = mark_all l.changed l.iterator' (map expr_of (drop l.value-index l.values.items)) l.marks ≡ mark_all l.fn.changed l.fn.iterator (map expr_of l.values.items) l.initial.marks
