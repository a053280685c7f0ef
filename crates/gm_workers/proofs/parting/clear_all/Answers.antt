-- One more list is empty.
use Rattle.std.proofs.Common.{arith}
use Rattle.gm_workers.proofs.PartingLemmas.{cleared-one}
use Rattle.gm_workers.proofs.parting.clear_all.Goals as goal

pub loop-w-preserved : goal.loop-w-preserved
loop-w-preserved c = cleared-one c.loop-w.w c.loop-w.parts c.clear.new.self (omega (arith, c.loop-w-test.true, c.loop-w.auto.parts)) c.clear.ensures.items c.loop-w.invariant
