use Rattle.gm_push_pull.proofs.Spreading.{drives-more}
use Rattle.gm_push_pull.proofs.locals.Locals.follow_each.Goals as goal

pub loop-index-preserved : goal.loop-index-preserved
loop-index-preserved c = drives-more c.args.links.now c.loop-index.invariant c.in_ok-follow_index.ensures
