-- Steps of nodes, where what they put may stand as fewer contributions.
use Rattle.std.specs.Prelude.{ℕ, List}
use Rattle.gm_machine.specs.Duties.{StepsTo}
use Rattle.gm_machine.specs.Fields.{HeldFields}
use Rattle.gm_machine.specs.Taking.{Contribution}
use Rattle.gm_machine.specs.Vertex.{After}
use Rattle.gm_put_totals.specs.Settling.{SettleAs}
use Rattle.gm_node_batches.specs.declared.steps.Sent.{Sent}
use Rattle.gm_node_batches.specs.Sents.{as_sent}

-- some steps were taken, from a place on. What is put settles as what the nodes put.
pub record StepsTaken (after : ℕ → After) (from to : ℕ) (old new : HeldFields) (sent sent' : Sent) : Type 0 where
  pub puts : List Contribution
  pub steps : StepsTo after from to old new (as_sent sent) (record (as_sent sent') { puts = puts })
  pub settle : SettleAs puts sent'.puts
