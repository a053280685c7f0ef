-- Why a body that stands alone may not write the outer iterator: what an inner loop gives to another node than the iteration's own is lost where it ends with itself, and not in the flipped loop.
use Rattle.std.specs.Prelude.{◌≡◌, ℕ, nat_eq, true, false, if◌then◌else◌, List, [], ◌∷◌, pos, Option, Some, None, Result, Ok, Err, refl}
use Rattle.gm_base.specs.declared.places.Place.{Place}
use Rattle.gm_value.specs.declared.values.VType.TheVariants as V
use Rattle.gm_value.specs.declared.values.Value.{Value}
use Rattle.gm_value.specs.declared.values.Value.TheVariants.{I32, Flag, At}
use Rattle.gm_value.specs.declared.reductions.Reduce.TheVariants.{Sum}
use Rattle.gm_model.specs.Graphs.{NumberedGraph}
use Rattle.gm_ast.specs.declared.tree.Declaration.{Declaration}
use Rattle.gm_ast.specs.declared.tree.Sort.{Sort}
use Rattle.gm_ast.specs.declared.tree.Sort.TheVariants as Sorts
use Rattle.gm_ast.specs.declared.tree.Stage.TheVariants.{Operator, Total}
use Rattle.gm_ast.specs.declared.tree.Domain.TheVariants as D
use Rattle.gm_ast.specs.declared.tree.Head.{Head}
use Rattle.gm_ast.specs.declared.tree.Key.{Key}
use Rattle.gm_ast.specs.declared.tree.Target.TheVariants as T
use Rattle.gm_ast.specs.declared.tree.TotalKey.{TotalKey}
use Rattle.gm_ast.specs.Program.{always, Const, Var, Property, Both, Stmt, Then, Assign, Combine, Foreach}
use Rattle.gm_semantics.specs.declared.faults.Fault.{Fault}
use Rattle.gm_semantics.specs.Stores.{Store}
use Rattle.gm_semantics.specs.Levels.{nodes, no_levels}
use Rattle.gm_semantics.specs.Iterations.{Loop}
use Rattle.gm_semantics.specs.Loops.{parallel}
use Rattle.gm_forms.specs.Forms.{depth_at, is_pull}
use Rattle.gm_forms.specs.Sharing.{shares}
use Rattle.gm_forms.specs.Flip.{flipped_head}
use Rattle.gm_loop_laws.specs.Alone.{stands_alone}

abbrev at : Place
at = record { line = 1; col = 1 }

abbrev key : Key
key = record { statement = 1; stage = Operator }

abbrev total : TotalKey
total = record { key = record { statement = 2; stage = Total }; place = at; shown = at }

abbrev row : Sort → ℕ → Declaration
row sort depth = record { name = []; variable = record { sort = sort; vtype = V.I32; depth = depth } }

-- the graph, the iterators of both loops, a saved filter, a property, a node variable; the outer iterator is declared as a local of an inner body
abbrev n : ℕ
n = 1

abbrev t : ℕ
t = 2

abbrev m : ℕ
m = 3

abbrev p : ℕ
p = 4

abbrev u : ℕ
u = 5

abbrev table : List Declaration
table = row Sorts.Graph 0 ∷ row Sorts.Scalar 2 ∷ row Sorts.Scalar 1 ∷ row Sorts.NodeProperty 0 ∷ row Sorts.NodeProperty 0 ∷ row Sorts.Scalar 0 ∷ []

-- one edge, from node 0 to node 1
abbrev g : NumberedGraph
g = record { numbers = 0 ∷ 1 ∷ []; edges = record { from = 0; to = 1 } ∷ []; node_columns = []; edge_columns = [] }

abbrev loop : Loop
loop = record { graph = g; levels = no_levels; depth = depth_at table; vtype = λ x. V.I32; outer = n; pushed = λ x. false }

abbrev start : Store
start = record {
  scalar = λ x. At (Some 1);
  node = λ x k. if nat_eq x m then Flag true else I32 (pos 0);
  edge = λ x k. I32 (pos 0);
}

abbrev head : Head
head = record { iterator = t; domain = D.OutNbrs; owner = n; place = at }

-- n = u; n.p += 1;
abbrev body : Stmt
body = Then (Assign key (T.Scalar n at) (Var u at)) (Combine key total Sum (T.Property n p at ∷ []) (Const (I32 (pos 1)) ∷ []))

abbrev held : Result Store Fault → Option Value
held (Ok s) = Some (s.node p 1)
held (Err f) = None

lost : held (parallel loop key (Property n m at) (Foreach key at head always body) (nodes g) start) ≡ Some (I32 (pos 0))
lost = refl

found : held (parallel (record loop { outer = t }) key always (Foreach key at (flipped_head n head) (Both (Property n m at) always) body) (nodes g) start) ≡ Some (I32 (pos 1))
found = refl

-- so the body does not stand alone, though its form and its sharing are those of a loop that is flipped
refused : stands_alone table [] n body ≡ false
refused = refl

pulled : is_pull table n head always body ≡ true
pulled = refl

shared : shares table n (Property n m at) (Foreach key at head always body) ≡ true
shared = refl
