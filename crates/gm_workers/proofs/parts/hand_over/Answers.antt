use Rattle.std.proofs.Common.{ap, ◌∙◌}
use Rattle.gm_posting.specs.Traffic.{Traffic}
use Rattle.gm_core.specs.Cores.{for_worker}
use Rattle.gm_workers.specs.declared.mail.Mail.{Mail}
use Rattle.gm_workers.proofs.PostLemmas.{gathers-take}
use Rattle.gm_workers.proofs.parts.hand_over.Goals as goal

pub take_all-requires : goal.take_all-requires
take_all-requires g c = ap (λ (t : Traffic Mail). t.mailboxes) c.in_ok-post_all.ensures.kept ∙ c.requires.mailboxes

pub returns : goal.returns
returns g c =
    gathers-take (λ to. for_worker c.args.owners.now to c.args.mail.now.messages) c.args.posts.now c.post_all.new.posts c.take_all.new.posts c.args.gathered.now c.post_all.new.gathered c.args.came.now.items c.take_all.new.came.items
    c.in_ok-post_all.ensures c.in_ok-take_all.ensures
