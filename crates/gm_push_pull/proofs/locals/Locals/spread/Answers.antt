use Rattle.gm_ast.specs.Tree.{stmt_of}
use Rattle.gm_push_pull.proofs.Spreading.{spreads-body}
use Rattle.gm_push_pull.proofs.locals.Locals.spread.Goals as goal

pub returns : goal.returns
returns c = spreads-body (stmt_of c.args.body.now) c.in_ok-web.ensures c.in_ok-sites.ensures c.in_ok-spread_web.ensures
