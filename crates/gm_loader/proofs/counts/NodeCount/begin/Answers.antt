use Rattle.std.proofs.Common.{[], ◌++◌}
use Rattle.gm_loader.proofs.counts.NodeCount.begin.Goals as goal

pub returns-clause-set : goal.returns-clause-set
returns-clause-set c = λ empty.
    c.in_ok-insert_all-3.ensures (c.args.from.now ++ c.args.to.now) (c.in_ok-insert_all-2.ensures c.args.from.now (c.in_ok-insert_all.ensures [] empty))
