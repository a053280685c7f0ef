-- Lines that some rows of messages run.
use Rattle.std.specs.Prelude.{◌≡◌, ◌≢◌, ℕ, Bool, Ok, List, ◌++◌}
use Rattle.std.specs.List.{AllByRecursion, AllZip, flat_map}
use Rattle.gm_value.specs.declared.values.Value.TheVariants.{Flag}
use Rattle.gm_value.specs.Bag.{SameBag}
use Rattle.gm_columns.specs.Columns.{TypedRow}
use Rattle.gm_image.specs.Program.{Line}
use Rattle.gm_image.specs.Term.{Term}
use Rattle.gm_kernels.specs.Pointwise.{held}
use Rattle.gm_machine.specs.Expressions.{value}
use Rattle.gm_machine.specs.Machine.{row_at}
use Rattle.gm_machine.specs.Vertex.{lines_after, leaves}
use Rattle.gm_batch_handlers.specs.declared.row_states.RowContext.{RowContext}
use Rattle.gm_batch_handlers.specs.declared.row_states.RowState.{RowState}
use Rattle.gm_batch_handlers.specs.Gifts.{Gift, AreLong, AreTotals}
use Rattle.gm_batch_handlers.specs.Handling.{all_values}
use Rattle.gm_batch_handlers.specs.RowStates.{IsFull, context_in, field_columns, place_of, row_count, row_state, view_in}

-- a value for each row in each register, and in each slot as many values as its column has
pub record IsReady (c : RowContext) (s : RowState) : Type 0 where
  pub registers : IsFull (row_count c) s.registers.items
  pub totals : AreLong (field_columns c) s.totals.items

-- a row runs lines to their end, whatever it gave before, and gives this more
abbrev pub RowRuns : List Line → RowContext → List TypedRow → List TypedRow → (ℕ → List Gift) → ℕ → Type 0
RowRuns ls c old new given row = (gifts : List Gift) →
    lines_after (context_in c row) ls 0 (row_state c old gifts row) ≡ leaves (row_state c new (gifts ++ given row) row)

-- some rows run lines, and the registers of the others stay as they are. What they give is folded into what the slots hold, in whatever order it is given.
pub record LinesRun (places : ℕ) (ls : List Line) (c : RowContext) (rows : List ℕ) (old new : RowState) : Type 0 where
  pub given : ℕ → List Gift
  pub runs : AllByRecursion (RowRuns ls c old.registers.items new.registers.items given) rows
  pub theirs : (row : ℕ) → AllByRecursion (λ g. g.at ≡ place_of c row) (given row)
  pub others : (row : ℕ) → AllByRecursion (λ r. r ≢ row) rows → row_at (all_values new.registers.items) row ≡ row_at (all_values old.registers.items) row
  pub totals : (gifts more : List Gift) → AreTotals places (field_columns c) gifts old.totals.items → SameBag more (gifts ++ flat_map given rows)
      → AreTotals places (field_columns c) more new.totals.items

-- the rows in which an expression is True, where it is True or False in each
pub record ArePartedBy (a : Term) (c : RowContext) (registers : List TypedRow) (rows inside : List ℕ) : Type 0 where
  pub flags : List Bool
  pub truths : AllZip (λ row flag. value (view_in c registers row) a ≡ Ok (Flag flag)) rows flags
  pub are : inside ≡ held flags rows
