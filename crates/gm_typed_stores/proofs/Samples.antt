-- A program that tells values alone; and programs whose trees have types and names, which do not, and whose results have another type than the declared one, or are no node of the graph.
use Rattle.std.specs.Prelude.{◌≡◌, ℕ, Bool, true, false, List, [], ◌∷◌, pos, Option, Some, None, refl}
use Rattle.gm_base.specs.declared.places.Place.{Place}
use Rattle.gm_value.specs.declared.values.VType.{VType}
use Rattle.gm_value.specs.declared.values.VType.TheVariants as V
use Rattle.gm_value.specs.declared.values.Value.{Value}
use Rattle.gm_value.specs.declared.values.Value.TheVariants.{I32, At}
use Rattle.gm_value.specs.declared.reductions.Reduce.TheVariants.{Max}
use Rattle.gm_model.specs.Graphs.{NumberedGraph}
use Rattle.gm_model.specs.declared.outcomes.Outcome.TheVariants.{Done}
use Rattle.gm_ast.specs.declared.surface.ReductionWord.TheVariants as W
use Rattle.gm_ast.specs.declared.tree.Declaration.{Declaration}
use Rattle.gm_ast.specs.declared.tree.Domain.TheVariants as D
use Rattle.gm_ast.specs.declared.tree.Fold.{Fold}
use Rattle.gm_ast.specs.declared.tree.Head.{Head}
use Rattle.gm_ast.specs.declared.tree.Key.{Key}
use Rattle.gm_ast.specs.declared.tree.Sort.{Sort}
use Rattle.gm_ast.specs.declared.tree.Sort.TheVariants as Sorts
use Rattle.gm_ast.specs.declared.tree.Stage.TheVariants.{Operator, Total}
use Rattle.gm_ast.specs.declared.tree.Target.TheVariants as T
use Rattle.gm_ast.specs.declared.tree.TotalKey.{TotalKey}
use Rattle.gm_ast.specs.Program.{always, Const, Var, Property, Folded, Stmt, Skip, Then, Group, Foreach, Combine, Return, Program}
use Rattle.gm_semantics.specs.Outcomes.{mean}
use Rattle.gm_semantics.specs.Statements.{State, Course, Goes, sequential}
use Rattle.gm_forms.specs.Extends.{run_of, start_of}
use Rattle.gm_forms.specs.Typing.{has_types}
use Rattle.gm_forms.specs.Uses.{is_named}
use Rattle.gm_typed_stores.specs.Points.{Reaches}
use Rattle.gm_typed_stores.specs.Tells.{tells_values}

abbrev at : Place
at = record { line = 1; col = 1 }

abbrev key : Key
key = record { statement = 1; stage = Operator }

abbrev total : TotalKey
total = record { key = record { statement = 1; stage = Total }; place = at; shown = at }

abbrev row : Sort → VType → ℕ → Declaration
row sort t depth = record { name = []; variable = record { sort = sort; vtype = t; depth = depth } }

-- an edge from node 0 to node 1
abbrev g : NumberedGraph
g = record { numbers = 0 ∷ 1 ∷ []; edges = record { from = 0; to = 1 } ∷ []; node_columns = []; edge_columns = [] }

-- the graph, a number, a property of nodes, an iterator of nodes, and an iterator that is declared as a number
abbrev procedure : Option VType → Stmt → Program
procedure result body = record {
  name = [];
  declarations = row Sorts.Graph V.Node 0 ∷ row Sorts.Scalar V.I32 0 ∷ row Sorts.NodeProperty V.Node 0 ∷ row Sorts.Iterator V.Node 1 ∷ row Sorts.Iterator V.I32 1 ∷ [];
  inputs = 2;
  outputs = 1;
  result = result;
  statements = 2;
  body = body;
}

abbrev head : ℕ → Head
head i = record { iterator = i; domain = D.Nodes; owner = 0; place = at }

-- the greatest node of those in a property, by an iterator
abbrev greatest : Fold
greatest = record { word = W.Max; vtype = V.Node; filter = key; body = key; total = total }

-- whether a program's tree has types, names variables as they are declared, and tells values alone of nodes below 2
abbrev tests : Program → List Bool
tests p = has_types p ∷ (is_named p ∷ (tells_values 2 p ∷ []))

-- G.p = G; Return Max (n: G.Nodes) { n.p };
abbrev fine : Program
fine = procedure (Some V.Node) (Then (Group key at 0 2 (Var 0 at)) (Then (Return key at (Some (Folded greatest (head 3) always (Property 3 2 at)))) Skip))

fine_tests : tests fine ≡ true ∷ (true ∷ (true ∷ []))
fine_tests = refl

fine_outcome : mean fine g (I32 (pos 5) ∷ []) 10 ≡ Done [] (Some (At (Some 1))) ((At (Some 0) ∷ (At (Some 1) ∷ [])) ∷ []) 0
fine_outcome = refl

-- Return G; outside of a group assignment the graph stands for no node
abbrev of_graph : Program
of_graph = procedure (Some V.Node) (Then (Return key at (Some (Var 0 at))) Skip)

of_graph_tests : tests of_graph ≡ true ∷ (true ∷ (false ∷ []))
of_graph_tests = refl

of_graph_outcome : mean of_graph g (I32 (pos 5) ∷ []) 10 ≡ Done [] (Some (I32 (pos 5))) ((At None ∷ (At None ∷ [])) ∷ []) 0
of_graph_outcome = refl

-- a constant that is no node of the graph
abbrev constant : Program
constant = procedure (Some V.Node) (Then (Return key at (Some (Const (At (Some 7))))) Skip)

constant_tests : tests constant ≡ true ∷ (true ∷ (false ∷ []))
constant_tests = refl

constant_outcome : mean constant g (I32 (pos 5) ∷ []) 10 ≡ Done [] (Some (At (Some 7))) ((At None ∷ (At None ∷ [])) ∷ []) 0
constant_outcome = refl

-- an iterator that is declared as a number, whose greatest value is returned as one: the total is of the declared type, its members are nodes
abbrev misdeclared : Program
misdeclared = procedure (Some V.I32) (Then (Foreach key at (head 4) always (Combine key total Max (T.Scalar 1 at ∷ []) (Var 4 at ∷ []))) (Then (Return key at (Some (Var 1 at))) Skip))

misdeclared_tests : tests misdeclared ≡ true ∷ (true ∷ (false ∷ []))
misdeclared_tests = refl

-- the return of the first program is a point of its run, after the group assignment
abbrev returns : Stmt
returns = Return key at (Some (Folded greatest (head 3) always (Property 3 2 at)))

abbrev arguments : List Value
arguments = I32 (pos 5) ∷ []

abbrev state_of : Course → State → State
state_of (Goes s) other = s
state_of _ other = other

-- the state behind the group assignment
abbrev filled : State
filled = let start = start_of fine g arguments in state_of (sequential (Group key at 0 2 (Var 0 at)) (run_of fine g 10) start) start

return_reached : Reaches (run_of fine g 10) [] fine.body (start_of fine g arguments) [] returns filled
return_reached = Reaches.rest refl (Reaches.first Reaches.here)
