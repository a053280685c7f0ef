use Rattle.gm_posting_tests.specs.Exchanges.{IsSame}
use Rattle.gm_posting_tests.proofs.exchanges.take_all.Given as goal

abbrev pub invariant-loop : goal.invariant-loop
invariant-loop g l = IsSame l.fn.posts l.posts
