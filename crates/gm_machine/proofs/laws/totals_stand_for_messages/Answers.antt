-- The step of a vertex takes the messages of each combinable kind by their total.
use Rattle.gm_machine.proofs.CombiningLemmas.{vertex-combined}
use Rattle.gm_machine.proofs.laws.totals_stand_for_messages.Goals as goal

pub returns : goal.returns
returns c = vertex-combined
