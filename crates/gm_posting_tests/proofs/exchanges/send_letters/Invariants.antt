use Rattle.gm_posting.specs.Gathering.{AreFew}
use Rattle.gm_posting_tests.specs.Exchanges.{IsSame, numbers_of}
use Rattle.gm_posting_tests.proofs.exchanges.send_letters.Given as goal

abbrev pub invariant-loop-number : goal.invariant-loop-number
invariant-loop-number g l = record {
  same : IsSame l.fn.posts l.posts;
  few : AreFew numbers_of l.gathered;
}
