use Rattle.std.proofs.Common.{[], ap, ◌∙◌}
use Rattle.gm_posting.specs.Traffic.{Traffic}
use Rattle.gm_workers.specs.declared.mail.Mail.{Mail}
use Rattle.gm_workers.proofs.PostLemmas.{gathers-take}
use Rattle.gm_workers.proofs.parts.hand_rest.Goals as goal

pub take_all-requires : goal.take_all-requires
take_all-requires g c = ap (λ (t : Traffic Mail). t.mailboxes) c.in_ok-flush.ensures.sent.kept ∙ c.requires.mailboxes

pub returns-clause-handed : goal.returns-clause-handed
returns-clause-handed g c =
    gathers-take (λ to. []) c.args.posts.now c.flush.new.posts c.take_all.new.posts c.args.gathered.now c.flush.new.gathered c.args.came.now.items c.take_all.new.came.items
    c.in_ok-flush.ensures.sent c.in_ok-take_all.ensures
