-- What the steps of nodes leave beside fields.
use Rattle.gm_machine.specs.declared.steps.Sent as machine
use Rattle.gm_node_batches.specs.declared.steps.Sent.{Sent}

-- the same as the machine holds it
abbrev pub as_sent : Sent → machine.Sent
as_sent s = record { messages = s.messages; puts = s.puts; fault = s.fault }
