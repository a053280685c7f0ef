use Rattle.std.proofs.Common.{ap, sym, ◌∙◌}
use Rattle.gm_ast.specs.Tree.{expr_of, stmt_of}
use Rattle.gm_bfs.specs.Searches.{inner_loop}
use Rattle.gm_bfs.proofs.InPlaceTrees.{on-ok}
use Rattle.gm_bfs.proofs.readings.inner_loop.Goals as goal

pub returns-in-UpNbrs : goal.returns-in-UpNbrs
returns-in-UpNbrs c = on-ok c.ranged.result c.ranged.ensures (λ r key place. r key place
    ∙ sym (ap (inner_loop c.args.fresh c.args.marks.now key place c.args.head.now (expr_of c.args.filter.now) (stmt_of c.args.body.now)) c.in-UpNbrs.is))

pub returns-in-DownNbrs : goal.returns-in-DownNbrs
returns-in-DownNbrs c = on-ok c.ranged-in-DownNbrs.result c.ranged-in-DownNbrs.ensures (λ r key place. r key place
    ∙ sym (ap (inner_loop c.args.fresh c.args.marks.now key place c.args.head.now (expr_of c.args.filter.now) (stmt_of c.args.body.now)) c.in-DownNbrs.is))
