-- The steps of a batch of nodes.
use Rattle.std.specs.Prelude.{◌≡◌, ◌<◌, ◌≤◌, ◌+◌, ◌⊎◌, ℕ, None, List, [], ◌++◌, length, map, slice_index_or}
use Rattle.std.specs.List.{flat_map, range_with_len}
use Rattle.gm_value.specs.declared.values.Value.{Value}
use Rattle.gm_image.specs.Views.{program}
use Rattle.gm_put_totals.specs.Settling.{SettleAs}
use Rattle.gm_machine.specs.declared.node_steps.Duty.{Duty}
use Rattle.gm_machine.specs.Machine.{row_at}
use Rattle.gm_machine.specs.Steps.{step_after}
use Rattle.gm_machine.specs.Taking.{Contribution}
use Rattle.gm_machine.specs.Vertex.{After, Message}

-- the step of the node of a row for which no messages wait, where the fields of row 0 lie at a place of columns
abbrev pub row_after : Duty → List ℕ → ℕ → List (List Value) → ℕ → After
row_after d nodes from columns row =
    step_after (program d.image.now) d.block d.globals.now d.graph.now (slice_index_or nodes row 0) [] (row_at columns (from + row))

-- the steps of so many rows: none faults, each has its new fields in its place of the columns, other places are kept, what they send stands behind what was sent before, and behind what was put before stands what settles as what they put
pub record BatchSteps (after : ℕ → After) (from count : ℕ) (old new : List (List Value)) (messages messages' : List Message) (puts puts' : List Contribution) : Type 0 where
  pub long : map length new ≡ map length old
  pub inside : (row : ℕ) → row < count → row_at new (from + row) ≡ (after row).state.fields
  pub outside : (place : ℕ) → (place < from) ⊎ (from + count ≤ place) → row_at new place ≡ row_at old place
  pub faultless : (row : ℕ) → row < count → (after row).fault ≡ None
  pub sent : messages' ≡ messages ++ flat_map (λ row. (after row).state.messages) (range_with_len 0 count)
  pub more : List Contribution
  pub put : puts' ≡ puts ++ more
  pub settle : SettleAs (flat_map (λ row. (after row).state.puts) (range_with_len 0 count)) more
