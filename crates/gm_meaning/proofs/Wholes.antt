-- Whole runs, from the first store to the outcome.
use Rattle.std.proofs.Common.{◌≡◌, ◌∙◌, ℕ, List, ap, sym, subst}
use Rattle.std.specs.Prelude.{All}
use Rattle.gm_value.specs.declared.values.Value.{Value}
use Rattle.gm_model.specs.Graphs.{NumberedGraph, node_count}
use Rattle.gm_graph.specs.Serving.{AreRowsOf}
use Rattle.gm_ast.specs.declared.tree.Declaration.{Declaration}
use Rattle.gm_ast.specs.Program.{Program}
use Rattle.gm_semantics.specs.Outcomes.{first_store, mean, outcome_of}
use Rattle.gm_semantics.specs.Statements as S
use Rattle.gm_semantics.specs.Statements.{Run, State, sequential}
use Rattle.gm_store.specs.Held.{Held, Shape, shape_of, store_of}
use Rattle.gm_loops.specs.declared.sights.EdgeColumn.{EdgeColumn}
use Rattle.gm_loops.specs.declared.sights.Setting.{Setting}
use Rattle.gm_loops.specs.Sights.{edges_of, Fits, HasColumn}
use Rattle.gm_meaning.specs.Inputs.{first_columns}
use Rattle.gm_meaning.proofs.Inputs.{columns-known}

-- the state in which a run begins
abbrev pub first_state : Program → NumberedGraph → List Value → State
first_state p g args = record { store = first_store p g args; turns = 0 }

pub start-same : (p : Program) (g : NumberedGraph) (args : List Value) (n : ℕ) (edges : List EdgeColumn) (h held : Held) → edges ≡ first_columns p g n → held ≡ h
    → store_of (edges_of g (first_columns p g n)) h ≡ first_store p g args → (let s : State = record { store = store_of (edges_of g edges) held; turns = 0 } in s) ≡ first_state p g args
start-same p g args n edges h held columns same store =
    ap (λ (cs : List EdgeColumn). let s : State = record { store = store_of (edges_of g cs) held; turns = 0 } in s) columns
    ∙ ap (λ (k : Held). let s : State = record { store = store_of (edges_of g (first_columns p g n)) k; turns = 0 } in s) same
    ∙ ap (λ st. let s : State = record { store = st; turns = 0 } in s) store

-- a run from there leads to what the program means
pub whole : (p : Program) (g : NumberedGraph) (args : List Value) (bound : ℕ) (ds : List Declaration) (start : State) (course : S.Course) → ds ≡ p.declarations → start ≡ first_state p g args
    → course ≡ sequential p.body (record { graph = g; declarations = ds; bound = bound }) start → outcome_of p g bound course ≡ mean p g args bound
whole p g args bound ds start course declared first runs =
    ap (outcome_of p g bound)
    (runs ∙ ap (λ (s : State). sequential p.body (record { graph = g; declarations = ds; bound = bound }) s) first
    ∙ ap (λ (l : List Declaration). sequential p.body (record { graph = g; declarations = l; bound = bound }) (first_state p g args)) declared)

-- the store with which a run begins has room for it
pub first-fits : (p : Program) (g : NumberedGraph) (n : ℕ) (f : Setting) (h : Held) → f.graph.now ≡ g → f.edges.now ≡ first_columns p g n → f.variables ≡ n
    → AreRowsOf g f.in_rows.now → shape_of h ≡ record { scalars = n; rows = n; nodes = node_count g } → Fits f h
first-fits p g n f h graph edges variables rows shape = record {
  in_rows = subst (λ (k : NumberedGraph). AreRowsOf k f.in_rows.now) (sym graph) rows;
  columns = subst (λ (k : NumberedGraph). All (λ c. HasColumn k c.column) f.edges.now) (sym graph) (subst (λ (cs : List EdgeColumn). All (λ c. HasColumn g c.column) cs) (sym edges) (columns-known p g n));
  scalars = ap (λ (s : Shape). s.scalars) shape ∙ sym variables;
  rows = ap (λ (s : Shape). s.rows) shape ∙ sym variables;
  nodes = ap (λ (s : Shape). s.nodes) shape ∙ ap node_count (sym graph);
}
