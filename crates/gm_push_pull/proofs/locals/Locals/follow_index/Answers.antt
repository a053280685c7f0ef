use Rattle.gm_push_pull.proofs.Spreading.{drives-at}
use Rattle.gm_push_pull.proofs.locals.Locals.follow_index.Goals as goal

pub returns-in_ok-follow : goal.returns-in_ok-follow
returns-in_ok-follow c = drives-at c.args.links.now c.args.index c.in-Some.link.now c.in-Some.ensures.lookup.3.0 c.in-Some.ensures.lookup.1 c.in_ok-follow.ensures
