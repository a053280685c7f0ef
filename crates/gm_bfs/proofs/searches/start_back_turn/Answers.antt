use Rattle.std.proofs.Common.{map}
use Rattle.gm_ast.specs.Tree.{stmt_of}
use Rattle.gm_bfs.proofs.Added.{added-4}
use Rattle.gm_bfs.proofs.searches.start_back_turn.Goals as goal

pub returns : goal.returns
returns c = added-4 (map stmt_of c.args.stmts.now.items) (map stmt_of c.add.new.stmts.items) (map stmt_of c.add-2.new.stmts.items) (map stmt_of c.add-3.new.stmts.items) (map stmt_of c.add-4.new.stmts.items) _ _ _ _ _ _ _ _
    c.in_ok-add.ensures c.in_ok-next_level_where.ensures c.in_ok-add-2.ensures c.in_ok-level_before_where.ensures c.in_ok-add-3.ensures c.in_ok-activate.ensures c.in_ok-add-4.ensures c.in_ok-copy.ensures
