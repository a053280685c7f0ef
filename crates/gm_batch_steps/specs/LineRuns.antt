-- Lines that some rows of a batch run.
use Rattle.std.specs.Prelude.{◌≡◌, ◌≢◌, ◌⊎◌, ℕ, nat_le, Bool, true, ◌&&◌, Ok, List, [], ◌∷◌, ◌++◌, length}
use Rattle.std.specs.List.{AllByRecursion, AllZip, flat_map}
use Rattle.gm_value.specs.declared.values.Value.TheVariants.{Flag}
use Rattle.gm_image.specs.Program.{Line, SetField, Fold, SetRegister, Put, Send, Skip, Each}
use Rattle.gm_image.specs.Term.{Term}
use Rattle.gm_kernels.specs.Pointwise.{held}
use Rattle.gm_machine.specs.Expressions.{value}
use Rattle.gm_machine.specs.Taking.{Contribution}
use Rattle.gm_machine.specs.Vertex.{Message, body_after, leaves}
use Rattle.gm_put_totals.specs.Settling.{SettleAs}
use Rattle.gm_batch_steps.specs.declared.batch_states.BatchContext.{BatchContext}
use Rattle.gm_batch_steps.specs.declared.batch_states.BatchState.{BatchState}
use Rattle.gm_batch_steps.specs.BatchStates.{context_in, row_state, sent_in, view_in}

-- how many of the lines that follow it a line may leave out
abbrev pub reach : Line → ℕ
reach (SetField f a) = 0
reach (Fold r place ts) = 0
reach (SetRegister r a) = 0
reach (Put r place ts) = 0
reach (Send kind to ts) = 0
reach (Skip n a) = n
reach (Each d n) = n

-- whether no line leaves out more lines than there are
abbrev pub stays : List Line → Bool
stays [] = true
stays (l ∷ ls) = nat_le (reach l) (length ls) && stays ls

-- a row runs lines to their end, from one state of a batch to another, whatever it sent and put before, and sends and puts this more
abbrev pub RowRuns : ℕ → List Line → BatchContext → BatchState → BatchState → (ℕ → List Message) → (ℕ → List Contribution) → ℕ → Type 0
RowRuns places ls c old new sent given row = (messages : List Message) (puts : List Contribution) →
    body_after places (context_in c row) ls 0 (row_state old messages puts row) ≡ leaves (row_state new (messages ++ sent row) (puts ++ given row) row)

-- some rows run lines, and the others stay as they are. What the rows send stands in their order; of several runs one alone sends something. What is put settles as what the rows put.
pub record LinesRun (places : ℕ) (ls : List Line) (c : BatchContext) (rows : List ℕ) (old new : BatchState) : Type 0 where
  pub sent : ℕ → List Message
  pub given : ℕ → List Contribution
  pub more : List Contribution
  pub runs : AllByRecursion (RowRuns places ls c old new sent given) rows
  pub others : (row : ℕ) → AllByRecursion (λ r. r ≢ row) rows → (messages : List Message) (puts : List Contribution) → row_state new messages puts row ≡ row_state old messages puts row
  pub width : length new.fields.items ≡ length old.fields.items
  pub messages : sent_in new ≡ sent_in old ++ flat_map sent rows
  pub puts : new.puts ≡ old.puts ++ more
  pub settle : SettleAs (flat_map given rows) more
  pub sends_once : (sent_in old ≡ []) ⊎ (flat_map sent rows ≡ [])

-- the rows in which an expression is True, where it is True or False in each
pub record ArePartedBy (a : Term) (c : BatchContext) (s : BatchState) (rows inside : List ℕ) : Type 0 where
  pub flags : List Bool
  pub truths : AllZip (λ row flag. value (view_in c s row) a ≡ Ok (Flag flag)) rows flags
  pub are : inside ≡ held flags rows
