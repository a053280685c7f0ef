use Rattle.std.proofs.Common.{◌∙◌}
use Rattle.gm_posting.proofs.GatheringLemmas.{gathers-few}
use Rattle.gm_posting_tests.specs.Exchanges.{numbers_of}
use Rattle.gm_posting_tests.proofs.StillWorkers.{same-then, gathers-same}
use Rattle.gm_posting_tests.proofs.exchanges.send_letter.Goals as goal

pub take_all-requires : goal.take_all-requires
take_all-requires g c = (gathers-same _ c.args.posts.now c.put_rows.new.posts c.args.gathered.now c.put_rows.new.gathered (c.in_ok-put_rows.ensures 0)).mailboxes ∙ c.requires.mailboxes

pub returns : goal.returns
returns g c = (
  same-then c.args.posts.now c.put_rows.new.posts c.take_all.new.posts (gathers-same _ c.args.posts.now c.put_rows.new.posts c.args.gathered.now c.put_rows.new.gathered (c.in_ok-put_rows.ensures 0)) c.in_ok-take_all.ensures,
  gathers-few numbers_of _ c.args.posts.now c.put_rows.new.posts c.args.gathered.now c.put_rows.new.gathered (c.in_ok-put_rows.ensures 0),
)
