-- What the handlers of messages gave so far.
use Rattle.std.specs.Prelude.{◌≡◌, ℕ, None, Option, List, [], length, map, slice_index_or}
use Rattle.std.specs.List.{AllByRecursion, AllZip, flat_map}
use Rattle.gm_value.specs.declared.values.Value.{Value}
use Rattle.gm_image.specs.Views.{program}
use Rattle.gm_machine.specs.declared.node_steps.Duty.{Duty}
use Rattle.gm_machine.specs.Machine.{block_at, context_at, row_at}
use Rattle.gm_machine.specs.Vertex.{Message, After, begun, handler_run}
use Rattle.gm_batch_handlers.specs.declared.row_states.SlotTotal.{SlotTotal}
use Rattle.gm_batch_handlers.specs.Gifts.{Gift, contribution, AreTotals}

-- the run of the handler of a message, from the fields of its node
abbrev pub run_of : Duty → List ℕ → List (List Value) → Message → After
run_of d nodes columns m =
    handler_run
    (context_at d.graph.now d.globals.now (slice_index_or nodes m.to 0))
    (block_at (program d.image.now) d.block).handlers
    (begun (program d.image.now).registers (row_at columns m.to))
    m

-- the run of the handler of a message gives this, and sends, puts and faults nothing
pub record Gives (d : Duty) (nodes : List ℕ) (columns : List (List Value)) (m : Message) (gifts : List Gift) : Type 0 where
  pub fault : (run_of d nodes columns m).fault ≡ None
  pub messages : (run_of d nodes columns m).state.messages ≡ []
  pub puts : (run_of d nodes columns m).state.puts ≡ []
  pub folds : (run_of d nodes columns m).state.folds ≡ map contribution gifts
  pub theirs : AllByRecursion (λ g. g.at ≡ m.to) gifts

-- what messages give is what the slots hold now
pub record Gathers (d : Duty) (nodes : List ℕ) (columns : List (List Value)) (messages : List Message) (totals : List (Option SlotTotal)) : Type 0 where
  pub gifts : List (List Gift)
  pub given : AllZip (Gives d nodes columns) messages gifts
  pub total : AreTotals (length (program d.image.now).places) columns (flat_map (λ gs. gs) gifts) totals
