use Rattle.std.proofs.Common.{arith}
use Rattle.gm_posting.proofs.RowLemmas.{joins-none, joins-one}
use Rattle.gm_posting.proofs.passes.join_range.Goals as goal

pub loop-worker-init : goal.loop-worker-init
loop-worker-init g c = joins-none c.args.from c.args.zero.now c.args.rows.now

pub loop-worker-preserved : goal.loop-worker-preserved
loop-worker-preserved g c =
    joins-one c.args.from c.loop-worker.worker c.args.zero.now c.loop-worker.zero c.join_one.new.zero c.args.rows.now c.loop-worker.rows c.index-rows-worker.result c.join_one.new.row
    (omega (arith, c.loop-worker.auto.worker)) (omega (arith, c.loop-worker-test.true, c.requires.range.1, c.loop-worker.invariant.long)) c.loop-worker.invariant c.join_one.ensures
