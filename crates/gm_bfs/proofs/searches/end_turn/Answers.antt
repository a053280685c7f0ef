use Rattle.std.proofs.Common.{map}
use Rattle.gm_ast.specs.Tree.{stmt_of}
use Rattle.gm_bfs.proofs.Added.{added-3}
use Rattle.gm_bfs.proofs.searches.end_turn.Goals as goal

pub returns : goal.returns
returns c = added-3 (map stmt_of c.args.stmts.now.items) (map stmt_of c.add.new.stmts.items) (map stmt_of c.add-2.new.stmts.items) (map stmt_of c.add-3.new.stmts.items) _ _ _ _ _ _
    c.in_ok-add.ensures c.in_ok-look.ensures c.in_ok-add-2.ensures c.more_where_found.ensures c.in_ok-add-3.ensures c.go_down.ensures
