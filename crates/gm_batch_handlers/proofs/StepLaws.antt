-- The step of a node whose handlers are done by columns.
use Rattle.std.proofs.Common.{◌≡◌, ◌∙◌, ◌<◌, ℕ, List, [], ap, sym, get_or, length}
use Rattle.gm_value.specs.declared.values.Value.{Value}
use Rattle.gm_image.specs.Views.{program}
use Rattle.gm_machine.specs.declared.node_steps.Duty.{Duty}
use Rattle.gm_machine.specs.Machine.{block_at, context_at, inbox, row_at}
use Rattle.gm_machine.specs.Steps.{step_after}
use Rattle.gm_machine.specs.Vertex.{Message, body_after, goes_on}
use Rattle.gm_batch_steps.proofs.StepLaws.{no-messages}
use Rattle.gm_batch_handlers.specs.Handling.{Handles}

-- it is the step from the new fields, without messages
pub step-left : (d : Duty) (nodes : List ℕ) (messages : List Message) (old new : List (List Value)) (place : ℕ) → Handles d nodes messages old new → place < length nodes
    → step_after (program d.image.now) d.block d.globals.now d.graph.now (get_or nodes place 0) (inbox messages place) (row_at old place)
    ≡ step_after (program d.image.now) d.block d.globals.now d.graph.now (get_or nodes place 0) [] (row_at new place)
step-left d nodes messages old new place h lt =
    ap (λ a. goes_on a (λ k w. body_after (length (program d.image.now).places) (context_at d.graph.now d.globals.now (get_or nodes place 0)) (block_at (program d.image.now) d.block).body 0 w))
    (h.each place lt)
    ∙ sym (no-messages (program d.image.now) (block_at (program d.image.now) d.block) (context_at d.graph.now d.globals.now (get_or nodes place 0)) (row_at new place))
