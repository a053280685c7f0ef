use Rattle.std.proofs.Common.{sym}
use Rattle.gm_loops.proofs.goings.Going.parallel.Goals as goal

pub returns-then-branch-clause-meaning : goal.returns-then-branch-clause-meaning
returns-then-branch-clause-meaning c = sym (c.in_ok-renews.ensures.meaning c.if-branch.true c.args.key)
