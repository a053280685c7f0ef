-- The whole run of a lowered program.
use Rattle.std.specs.Prelude.{◌≡◌, ◌<◌, ◌≤◌, ℕ, ◌+◌, Bool, true, false, Option, Some, None, List, length}
use Rattle.gm_value.specs.declared.values.VType.{VType}
use Rattle.gm_value.specs.declared.values.Value.{Value}
use Rattle.gm_value.specs.declared.values.Value.TheVariants.{At}
use Rattle.gm_value.specs.Numbers.{zero_of}
use Rattle.gm_model.specs.Graphs.{NumberedGraph, IsGraph, node_count}
use Rattle.gm_ast.specs.declared.tree.Sort.TheVariants as Sorts
use Rattle.gm_ast.specs.Names.{is}
use Rattle.gm_ast.specs.Program.{Program}
use Rattle.gm_forms.specs.Extends.{run_of, start_of}
use Rattle.gm_semantics.specs.Statements.{variable_at}
use Rattle.gm_semantics.specs.Outcomes.{mean}
use Rattle.gm_typed_stores.specs.Laws.{IsWellTyped, FitsBelow}
use Rattle.gm_typed_stores.specs.Tells.{table_of}
use Rattle.gm_machine.specs.Expressions.{value_at}
use Rattle.gm_machine.specs.Machine.{start_control, start_nodes, machine}
use Rattle.gm_lowering.specs.Layouts.{layout, nesting, column_types}
use Rattle.gm_lowering.specs.Lowered.{body_part, lowered, start}
use Rattle.gm_lowering_master.specs.Runs.{Moment}
use Rattle.gm_lowering_master.specs.Cells.{Setting, IsSetting, IsAt}
use Rattle.gm_lowering_master.specs.Follows.{is_followed, LoopsGo}

-- whether a procedure has a result
abbrev pub has_result : {A : Type 0} → Option A → Bool
has_result None = false
has_result (Some t) = true

-- the first value of a result
abbrev pub zero_of_result : Option VType → Value
zero_of_result None = At None
zero_of_result (Some t) = zero_of t

-- the setting of a program's run
abbrev pub setting : Program → NumberedGraph → ℕ → Setting
setting p g bound = record {
  frame = record { layout = layout p; finish = length (body_part p 0).commands };
  image = lowered p;
  run = run_of p g bound;
  table = table_of (node_count g) p;
  result = p.result;
  returns = has_result p.result;
  depth = nesting p.body;
}

-- the first moment of the machine's run
abbrev pub first_moment : Program → NumberedGraph → List Value → ℕ → Moment
first_moment p g args bound = record { left = bound; control = start_control (lowered p) args; nodes = start_nodes (lowered p) g }

-- on each graph a program's layout is a setting
abbrev pub LayoutsAreSettings : Type 0
LayoutsAreSettings = (p : Program) (g : NumberedGraph) (bound : ℕ) → IsGraph g → IsSetting (setting p g bound)

-- inputs and outputs are declared, outside of loops, and inputs are no iterators; and properties of edges are inputs
pub record HasInterface (p : Program) : Type 0 where
  pub declared : p.inputs + p.outputs ≤ length p.declarations
  pub outside : (x : ℕ) → x < p.inputs + p.outputs → (variable_at p.declarations x).depth ≡ 0
  pub no_iterator : (x : ℕ) → x < p.inputs → is Sorts.Iterator (variable_at p.declarations x) ≡ false
  pub edges : (x : ℕ) → is Sorts.EdgeProperty (variable_at p.declarations x) ≡ true → x < p.inputs

-- the first moment shows the first state, and the result has its first value
pub record Starts (p : Program) (g : NumberedGraph) (args : List Value) (bound : ℕ) : Type 0 where
  pub at : IsAt (setting p g bound) (first_moment p g args bound) (start_of p g args)
  pub result : has_result p.result ≡ true → value_at (start_control (lowered p) args).globals (layout p).result ≡ zero_of_result p.result

-- the graph has the edge columns that the image declares
abbrev pub HasEdgeColumns : Program → NumberedGraph → Type 0
HasEdgeColumns p g = length (column_types p) ≡ length g.edge_columns

-- the first moment shows the first state, on each graph with these columns and for all arguments
abbrev pub FirstMomentsShow : Type 0
FirstMomentsShow = (p : Program) (g : NumberedGraph) (args : List Value) (bound : ℕ) → HasInterface p → IsGraph g → HasEdgeColumns p g → Starts p g args bound

-- the machine on a lowered program has the program's outcome, where each loop goes, if the program has types and arguments and columns have nodes of the graph alone
abbrev pub RunsAreFollowed : Type 0
RunsAreFollowed =
    (p : Program) (g : NumberedGraph) (args : List Value) (bound : ℕ) → HasInterface p → IsWellTyped (node_count g) p → FitsBelow (node_count g) p g args → HasEdgeColumns p g
    → is_followed (layout p) (has_result p.result) p.body ≡ true → LoopsGo (setting p g bound) p.body start
    → (machine (lowered p) g args bound).outcome ≡ mean p g args bound
