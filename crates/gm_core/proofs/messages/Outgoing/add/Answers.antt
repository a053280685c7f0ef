-- More messages do not come before the first.
use Rattle.std.proofs.Common.{[], length, ap, arith, length-append}
use Rattle.gm_machine.specs.Vertex.{Message}
use Rattle.gm_core.proofs.messages.Outgoing.add.Goals as goal

abbrev nowhere : Message
nowhere = record { to = 0; kind = 0; values = [] }

pub invariant_of-self : goal.invariant_of-self
invariant_of-self c = omega (arith, c.self.invariant, ap length c.in_err-copy_message.ensures.unchanged)

pub invariant_of-self-2 : goal.invariant_of-self-2
invariant_of-self-2 c = omega (arith, c.self.invariant, ap length (c.in_ok-copy_message.ensures.added nowhere), length-append {A = Message})
