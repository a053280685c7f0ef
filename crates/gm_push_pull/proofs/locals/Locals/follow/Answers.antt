use Rattle.std.proofs.Common.{◌≡◌, true, subst}
use Rattle.gm_push_pull.specs.declared.reads.Reads.{Reads}
use Rattle.gm_push_pull.specs.Tests.{holds}
use Rattle.gm_push_pull.specs.Locals.{is_known}
use Rattle.gm_push_pull.specs.Webs.{Drives, Reached}
use Rattle.gm_push_pull.proofs.Spreading.{drives-followed}
use Rattle.gm_push_pull.proofs.locals.Locals.follow.Goals as goal

pub returns : goal.returns
returns c =
    let a = c.args.self.now in
    drives-followed c.args.link (subst (λ (r : Reads). Drives a c.wake.new.self c.args.sites.now c.wake.new.sites c.args.work.now.items c.wake.new.work.items (λ t B C. holds r t ≡ true → Reached (is_known a) B C c.args.link.to)) c.read_at-reads.ensures c.in_ok-wake.ensures)
