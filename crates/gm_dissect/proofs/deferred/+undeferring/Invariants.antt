use Rattle.std.proofs.Common.{◌≡◌, map}
use Rattle.gm_ast.specs.Tree.{stmt_of}
use Rattle.gm_loop_laws.specs.Deferring.{undeferred}
use Rattle.gm_dissect.proofs.Partly.{partly}
use Rattle.gm_dissect.proofs.deferred.+undeferring.Given as goal

abbrev pub invariant-undefer_block-loop-i : goal.invariant-undefer_block-loop-i
invariant-undefer_block-loop-i l = goal.unvisited-undefer_block-loop-i l × (map stmt_of l.stmts.items ≡ partly (undeferred l.moved.property l.moved.copy) l.i (map stmt_of l.initial.stmts.items))
