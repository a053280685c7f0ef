use Rattle.gm_posting_tests.proofs.StillWorkers.{same-then}
use Rattle.gm_posting_tests.proofs.exchanges.send_letters.Goals as goal

pub loop-number-preserved : goal.loop-number-preserved
loop-number-preserved g c = record {
  same = same-then c.args.posts.now c.loop-number.posts c.send_letter.new.posts c.loop-number.invariant.same c.in_ok-send_letter.ensures.0;
  few = c.in_ok-send_letter.ensures.1;
}
