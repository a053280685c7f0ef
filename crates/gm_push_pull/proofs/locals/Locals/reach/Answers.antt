use Rattle.gm_push_pull.proofs.Spreading.{flows-local, flows-site}
use Rattle.gm_push_pull.proofs.locals.Locals.reach.Goals as goal

pub returns-in_ok-changed-in-Local : goal.returns-in_ok-changed-in-Local
returns-in_ok-changed-in-Local c = rw c.in-Local.is (flows-local c.args.sites.now c.in-Local.variable c.args.reads c.in_ok-changed-in-Local.ensures)

pub returns-in_ok-changed-in-Site : goal.returns-in_ok-changed-in-Site
returns-in_ok-changed-in-Site c = rw c.in-Site.is (flows-site c.args.self.now c.in-Site.site c.args.reads c.in_ok-changed-in-Site.ensures)
