use Rattle.gm_posting_tests.proofs.StillWorkers.{same-then, gathers-same}
use Rattle.gm_posting_tests.proofs.exchanges.send_all.Goals as goal

pub returns : goal.returns
returns g c =
    same-then c.args.posts.now c.send_letters.new.posts c.flush.new.posts c.in_ok-send_letters.ensures.0
    (gathers-same _ c.send_letters.new.posts c.flush.new.posts c.send_letters.new.gathered c.flush.new.gathered c.in_ok-flush.ensures.sent)
