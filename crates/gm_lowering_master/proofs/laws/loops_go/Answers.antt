-- Loops of each kind go.
use Rattle.gm_lowering_master.proofs.Going.{own-loops-go, message-loops-go, home-loops-go, sending-loops-go, own-sending-loops-go}
use Rattle.gm_lowering_master.proofs.PicksGoing.{picks-go}
use Rattle.gm_lowering_master.proofs.ReceiverGoing.{receiver-sending-loops-go}
use Rattle.gm_lowering_master.proofs.laws.loops_go.Goals as goal

pub returns-clause-own : goal.returns-clause-own
returns-clause-own c = own-loops-go

pub returns-clause-message : goal.returns-clause-message
returns-clause-message c = message-loops-go

pub returns-clause-home : goal.returns-clause-home
returns-clause-home c = home-loops-go

pub returns-clause-sending : goal.returns-clause-sending
returns-clause-sending c = sending-loops-go

pub returns-clause-through : goal.returns-clause-through
returns-clause-through c = own-sending-loops-go

pub returns-clause-receivers : goal.returns-clause-receivers
returns-clause-receivers c = receiver-sending-loops-go

pub returns-clause-picks : goal.returns-clause-picks
returns-clause-picks c = picks-go
