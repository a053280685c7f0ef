use Rattle.std.proofs.Common.{◌≡◌, ◌+◌, map}
use Rattle.gm_ast.specs.Tree.{stmt_of}
use Rattle.gm_parting.specs.Nodes.{nodes_in, nodes_read}
use Rattle.gm_prepare.proofs.Counted.{partly, counted_before}
use Rattle.gm_prepare.proofs.nodes.+reading.Given as goal

-- the statements before an index read their nodes first, and these are counted
abbrev pub invariant-read_block-loop-i : goal.invariant-read_block-loop-i
invariant-read_block-loop-i l = goal.unvisited-read_block-loop-i l
    × (map stmt_of l.stmts.items ≡ partly (nodes_read l.declarations l.outer l.locals.outer l.locals.inner) (nodes_in l.declarations) l.i l.done (map stmt_of l.initial.stmts.items))
    × (l.so_far ≡ l.done + counted_before (nodes_read l.declarations l.outer l.locals.outer l.locals.inner) (nodes_in l.declarations) l.i (map stmt_of l.initial.stmts.items))
