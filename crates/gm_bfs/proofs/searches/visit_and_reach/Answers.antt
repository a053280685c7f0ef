use Rattle.std.proofs.Common.{ap, ◌∙◌, map}
use Rattle.gm_ast.specs.Program.{sequence}
use Rattle.gm_ast.specs.Tree.{stmt_of}
use Rattle.gm_bfs.proofs.Added.{added-2, from-none}
use Rattle.gm_bfs.proofs.searches.visit_and_reach.Goals as goal

pub returns : goal.returns
returns c = c.block.ensures ∙ ap sequence (from-none (map stmt_of c.new-stmts.result.items) _ _ (ap (map stmt_of) c.new-stmts.ensures.items)
    (added-2 (map stmt_of c.new-stmts.result.items) (map stmt_of c.add.new.stmts.items) (map stmt_of c.add-2.new.stmts.items) _ _ _ _
    c.in_ok-add.ensures c.in_ok-visit.ensures c.in_ok-add-2.ensures c.in_ok-reach.ensures))
