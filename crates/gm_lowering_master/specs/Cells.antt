-- What globals and nodes show of a state between the statements of a sequential phase.
use Rattle.std.specs.Prelude.{◌≡◌, ◌≢◌, ◌<◌, ◌≤◌, ℕ, ◌+◌, nat_lt, Bool, true, false, ◌&&◌, ◌||◌, Option, Some, None, List, [], length, map}
use Rattle.gm_value.specs.declared.values.VType.{VType}
use Rattle.gm_value.specs.declared.values.Value.{Value}
use Rattle.gm_value.specs.Numbers.{zero_of}
use Rattle.gm_model.specs.Graphs.{IsGraph, node_count}
use Rattle.gm_semantics.specs.Statements.{Run, State, variable_at}
use Rattle.gm_semantics.specs.Stores.{Store}
use Rattle.gm_typed_stores.specs.Tells.{TypeTable}
use Rattle.gm_image.specs.Program.{Program}
use Rattle.gm_machine.specs.Expressions.{value_at}
use Rattle.gm_machine.specs.Machine.{Nodes}
use Rattle.gm_lowering.specs.Layouts.{Layout, is_global}
use Rattle.gm_lowering.specs.Lowered.{Frame}
use Rattle.gm_lowering.specs.Phases.{EdgesShown, Shown}
use Rattle.gm_lowering.specs.Sites.{IsApart, is_local}
use Rattle.gm_lowering_master.specs.Runs.{Moment}
use Rattle.gm_forms.specs.Typing.{type_at}

-- what the master list keeps in globals: scalars of the procedure, its result, and the counters and flags of loops by how many such loops are around
pub data Cell : Type 0 where
  OfScalar : (x : ℕ) → Cell
  OfResult : Cell
  CounterOf : (depth : ℕ) → Cell
  FlagOf : (depth : ℕ) → Cell

-- the global of a cell
abbrev pub cell_number : Layout → Cell → ℕ
cell_number c (OfScalar x) = c.global x
cell_number c OfResult = c.result
cell_number c (CounterOf d) = c.counter d
cell_number c (FlagOf d) = c.flag d

-- whether a variable is a scalar of the procedure
abbrev pub is_scalar : Layout → ℕ → Bool
is_scalar c x = nat_lt x (length c.declarations) && is_global (variable_at c.declarations x)

-- whether a cell is in use: a result where the procedure has one, and counters and flags of so many loops in each other
abbrev pub is_cell : Layout → Bool → ℕ → Cell → Bool
is_cell c returns depth (OfScalar x) = is_scalar c x
is_cell c returns depth OfResult = returns
is_cell c returns depth (CounterOf d) = nat_lt d depth
is_cell c returns depth (FlagOf d) = nat_lt d depth

-- whether a cell is none of the program's own variables
abbrev pub is_hidden : Cell → Bool
is_hidden (OfScalar x) = false
is_hidden _ = true

-- cells in use are in range and apart from each other
pub record AreCells (c : Layout) (returns : Bool) (depth globals : ℕ) : Type 0 where
  pub within : (a : Cell) → is_cell c returns depth a ≡ true → cell_number c a < globals
  pub apart : (a b : Cell) → is_cell c returns depth a ≡ true → is_cell c returns depth b ≡ true → cell_number c a ≡ cell_number c b → a ≡ b

-- spare globals at so many positions are in range, apart from each other, and none of a cell in use
pub record HasSpareGlobals (c : Layout) (returns : Bool) (depth globals positions : ℕ) : Type 0 where
  pub within : (i : ℕ) (t : VType) → i < positions → c.spare_global i t < globals
  pub apart : (i j : ℕ) (t u : VType) → i < positions → j < positions → c.spare_global i t ≡ c.spare_global j u → i ≡ j
  pub others : (i : ℕ) (t : VType) (a : Cell) → i < positions → is_cell c returns depth a ≡ true → cell_number c a ≢ c.spare_global i t

-- what stays the same over a run: where things lie and where the run ends, the image, the run of the program, what its types are judged by, the type of the procedure's result and whether it has one, and how many loops with a counter or a flag may stand in each other
pub record Setting : Type 0 where
  pub frame : Frame
  pub image : Program
  pub run : Run
  pub table : TypeTable
  pub result : Option VType
  pub returns : Bool
  pub depth : ℕ

-- a setting in which things lie apart and registers begin with the first values of their locals, on a graph whose nodes are those below the limit; values are judged by the types of the declarations
pub record IsSetting (s : Setting) : Type 0 where
  pub cells : AreCells s.frame.layout s.returns s.depth (length s.image.globals)
  pub rows : IsApart s.frame.layout (length s.image.registers) (length s.image.fields)
  pub declarations : s.run.declarations ≡ s.frame.layout.declarations
  pub firsts : (x : ℕ) → is_local s.frame.layout x ≡ true → value_at (map zero_of s.image.registers) (s.frame.layout.register x) ≡ zero_of (type_at s.frame.layout.declarations x)
  pub graph : IsGraph s.run.graph
  pub types : s.table.declarations ≡ s.frame.layout.declarations
  pub below : node_count s.run.graph ≤ s.table.limit
  pub limit : s.table.limit ≤ node_count s.run.graph

-- globals and nodes show a store, and the graph its edge properties
pub record Between (s : Setting) (globals : List Value) (nodes : Nodes) (r : Store) : Type 0 where
  pub shown : Shown s.frame.layout s.image.registers (length s.image.fields) s.run.graph globals nodes r
  pub edges : EdgesShown s.frame.layout s.run.graph r
  pub count : length globals ≡ length s.image.globals

-- a moment of the machine's run is one of the program's: the store is shown, and as many turns were counted, and are left
pub record IsAt (s : Setting) (m : Moment) (state : State) : Type 0 where
  pub between : Between s m.control.globals m.nodes state.store
  pub turns : m.control.turns ≡ state.turns
  pub left : m.left + state.turns ≡ s.run.bound

-- the result and the counters and flags of the loops around keep their values
abbrev pub Kept : Setting → ℕ → List Value → List Value → Type 0
Kept s depth old new =
    (a : Cell) → is_hidden a ≡ true → is_cell s.frame.layout s.returns depth a ≡ true → value_at new (cell_number s.frame.layout a) ≡ value_at old (cell_number s.frame.layout a)

-- the result is what was returned, where the procedure has one; without a value it is what it was
abbrev pub HasResult : Setting → Option Value → List Value → List Value → Type 0
HasResult s None old new = s.returns ≡ true → value_at new s.frame.layout.result ≡ value_at old s.frame.layout.result
HasResult s (Some v) old new = (s.returns ≡ true) × (value_at new s.frame.layout.result ≡ v)
