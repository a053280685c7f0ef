use Rattle.std.proofs.Common.{◌≡◌, map}
use Rattle.gm_ast.specs.Tree.{stmt_of}
use Rattle.gm_dissect.specs.Loops.{each_loop}
use Rattle.gm_dissect.proofs.Partly.{partly}
use Rattle.gm_parting.specs.Nodes.{nodes_loop}
use Rattle.gm_prepare.proofs.nodes.+loops.Given as goal

abbrev pub invariant-read_phases-loop-i : goal.invariant-read_phases-loop-i
invariant-read_phases-loop-i l = goal.unvisited-read_phases-loop-i l × (map stmt_of l.stmts.items ≡ partly (each_loop (nodes_loop l.declarations l.locals.outer l.locals.inner)) l.i (map stmt_of l.initial.stmts.items))
