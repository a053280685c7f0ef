use Rattle.std.proofs.Common.{arith}
use Rattle.gm_mtx.proofs.Reading.{numbers_more}
use Rattle.gm_mtx.proofs.tables.node_numbers.Goals as goal

pub loop-node-preserved : goal.loop-node-preserved
loop-node-preserved c =
    numbers_more c.loop-node.node _ _ _ c.loop-node.invariant c.in_ok-push.ensures (omega (arith, c.from.ensures))
