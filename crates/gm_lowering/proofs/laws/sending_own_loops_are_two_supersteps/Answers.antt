-- Two supersteps are an own loop that sends.
use Rattle.gm_lowering.proofs.OwnSendLoops.{sending-own-loops}
use Rattle.gm_lowering.proofs.laws.sending_own_loops_are_two_supersteps.Goals as goal

pub returns : goal.returns
returns c = sending-own-loops
