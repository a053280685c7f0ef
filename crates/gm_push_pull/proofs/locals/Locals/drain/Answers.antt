use Rattle.gm_push_pull.proofs.Spreading.{drives-more, drives-popped}
use Rattle.gm_push_pull.proofs.locals.Locals.drain.Goals as goal

pub loop-node-preserved : goal.loop-node-preserved
loop-node-preserved c = drives-more c.args.web.now.links.items (drives-popped c.in-Some.node c.in-Some.ensures.items c.loop-node.invariant) c.in_ok-visit.ensures
