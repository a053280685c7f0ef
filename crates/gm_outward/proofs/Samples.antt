-- Worked rows: which conditions are asked at the outer node, which stay, and that the programs mean the same.
use Rattle.std.specs.Prelude.{◌≡◌, ℕ, Bool, true, false, List, [], ◌∷◌, pos, None, refl}
use Rattle.gm_base.specs.declared.places.Place.{Place}
use Rattle.gm_value.specs.declared.faults.FaultKind.TheVariants.{DivideByZero}
use Rattle.gm_value.specs.declared.values.VType.{VType}
use Rattle.gm_value.specs.declared.values.VType.TheVariants as V
use Rattle.gm_value.specs.declared.values.Value.TheVariants.{I32, Flag}
use Rattle.gm_value.specs.declared.operations.Op2.TheVariants as Op2
use Rattle.gm_value.specs.declared.reductions.Reduce.TheVariants.{Sum, And}
use Rattle.gm_model.specs.Graphs.{NumberedGraph}
use Rattle.gm_model.specs.declared.outcomes.Outcome.{Outcome}
use Rattle.gm_model.specs.declared.outcomes.Outcome.TheVariants.{Done, Fault}
use Rattle.gm_ast.specs.declared.tree.Declaration.{Declaration}
use Rattle.gm_ast.specs.declared.tree.Sort.{Sort}
use Rattle.gm_ast.specs.declared.tree.Sort.TheVariants as Sorts
use Rattle.gm_ast.specs.declared.tree.Stage.TheVariants.{Operator, Total}
use Rattle.gm_ast.specs.declared.tree.Domain.{Domain}
use Rattle.gm_ast.specs.declared.tree.Domain.TheVariants as D
use Rattle.gm_ast.specs.declared.tree.Head.{Head}
use Rattle.gm_ast.specs.declared.tree.Key.{Key}
use Rattle.gm_ast.specs.declared.tree.Target.{Target}
use Rattle.gm_ast.specs.declared.tree.Target.TheVariants as T
use Rattle.gm_ast.specs.declared.tree.TotalKey.{TotalKey}
use Rattle.gm_ast.specs.Program.{Expr, always, Const, Property, EdgeProperty, Binary, Both, Stmt, Skip, Then, DeclareEdge, Combine, Foreach, If, Program}
use Rattle.gm_semantics.specs.Outcomes.{mean}
use Rattle.gm_forms.specs.Cut.{is_flipped}
use Rattle.gm_forms.specs.Order.{is_ordered}
use Rattle.gm_forms.specs.Sharing.{is_race_free}
use Rattle.gm_forms.specs.Typing.{has_types}
use Rattle.gm_forms.specs.Uses.{is_named}
use Rattle.gm_outward.specs.Outward.{asked_outward}

abbrev row : Sort → VType → ℕ → Declaration
row sort t depth = record { name = []; variable = record { sort = sort; vtype = t; depth = depth } }

-- the graph; node properties: a and b of Int, m of Bool, x and y, the outputs; an edge property; the iterators; a scalar; a local of an outer body; an edge; a property that is declared in an inner body; another scalar; a local of an inner body
abbrev G : ℕ
G = 0

abbrev a : ℕ
a = 1

abbrev m : ℕ
m = 2

abbrev w : ℕ
w = 3

abbrev x : ℕ
x = 4

abbrev y : ℕ
y = 5

abbrev n : ℕ
n = 6

abbrev t : ℕ
t = 7

abbrev c : ℕ
c = 8

abbrev l : ℕ
l = 9

abbrev e : ℕ
e = 10

abbrev q : ℕ
q = 11

abbrev d : ℕ
d = 12

abbrev z : ℕ
z = 13

abbrev table : List Declaration
table =
    row Sorts.Graph V.I32 0 ∷ row Sorts.NodeProperty V.I32 0 ∷ row Sorts.NodeProperty V.Flag 0 ∷ row Sorts.EdgeProperty V.I32 0 ∷ row Sorts.NodeProperty V.I32 0 ∷ row Sorts.NodeProperty V.I32 0
    ∷ row Sorts.Iterator V.Node 1 ∷ row Sorts.Iterator V.Node 2 ∷ row Sorts.Scalar V.I32 0 ∷ row Sorts.Scalar V.I32 1 ∷ row Sorts.Edge V.I32 2 ∷ row Sorts.NodeProperty V.I32 2 ∷ row Sorts.Scalar V.I32 0 ∷ row Sorts.Scalar V.I32 2 ∷ []

abbrev at : ℕ → Place
at col = record { line = 1; col = col }

abbrev key : ℕ → Key
key s = record { statement = s; stage = Operator }

abbrev ends : ℕ → TotalKey
ends s = record { key = record { statement = s; stage = Total }; place = at 9; shown = at 9 }

abbrev nodes_of : ℕ → Head
nodes_of it = record { iterator = it; domain = D.Nodes; owner = G; place = at 1 }

abbrev over : ℕ → Domain → ℕ → Head
over it d owner = record { iterator = it; domain = d; owner = owner; place = at 2 }

-- Foreach (n: G.Nodes)(mask) { Foreach (t: n.d)(test) { body } }
abbrev pair : ℕ → Expr → ℕ → Domain → Expr → Stmt → Stmt
pair outer mask inner d test body = Foreach (key 1) (at 1) (nodes_of outer) mask (Foreach (key 2) (at 2) (over inner d outer) test body)

abbrev program : Stmt → Program
program s = record { name = []; declarations = table; inputs = 4; outputs = 2; result = None; statements = 9; body = s }

abbrev add_to : Target → Expr → Stmt
add_to target value = Combine (key 3) (ends 3) Sum (target ∷ []) (value ∷ [])

-- n.m, t.m, and what is the node's and may fault
abbrev here : Expr
here = Property n m (at 3)

abbrev there : Expr
there = Property t m (at 4)

abbrev small : Expr
small = Binary Op2.Lt (at 5) (Property n a (at 5)) (Const (I32 (pos 6)))

abbrev divided : Expr
divided = Binary Op2.Lt (at 6) (Binary Op2.Div (at 7) (Const (I32 (pos 9))) (Property t a (at 8))) (Const (I32 (pos 6)))

abbrev give : Stmt
give = add_to (T.Property t x (at 6)) (Property n a (at 7))

-- in the last form and ready for what every pass keeps, before and after
abbrev told : Stmt → List Bool
told s =
    is_flipped (program s) ∷ is_named (program s) ∷ has_types (program s) ∷ is_ordered (program s) ∷ is_race_free (program s)
    ∷ is_flipped (program (asked_outward s)) ∷ is_ordered (program (asked_outward s)) ∷ is_race_free (program (asked_outward s)) ∷ []

abbrev ready : List Bool
ready = true ∷ true ∷ true ∷ true ∷ true ∷ true ∷ true ∷ true ∷ []

-- both conditions of the node move, and the neighbour's stays
abbrev mixed : Stmt
mixed = pair n always t D.OutNbrs (Both (Both here there) small) give

mixed-asked : asked_outward mixed ≡ pair n (Both here small) t D.OutNbrs there give
mixed-asked = refl

mixed-told : told mixed ≡ ready
mixed-told = refl

-- behind what can fault nothing moves
abbrev behind : Stmt
behind = pair n here t D.OutNbrs (Both (Both there divided) small) give

behind-stays : asked_outward behind ≡ behind
behind-stays = refl

behind-told : told behind ≡ ready
behind-told = refl

-- what stands before it does
abbrev before : Stmt
before = pair n here t D.OutNbrs (Both small (Both divided here)) give

before-asked : asked_outward before ≡ pair n (Both here small) t D.OutNbrs (Both divided here) give
before-asked = refl

-- a filter that moves whole leaves none
abbrev all_moves : Stmt
all_moves = pair n here t D.OutNbrs small give

all_moves-asked : asked_outward all_moves ≡ pair n (Both here small) t D.OutNbrs always give
all_moves-asked = refl

-- an edge's property is asked at the edge
abbrev at_edge : Stmt
at_edge = pair n here t D.OutNbrs (Binary Op2.Lt (at 5) (EdgeProperty e w (at 5)) (Const (I32 (pos 6)))) give

at_edge-stays : asked_outward at_edge ≡ at_edge
at_edge-stays = refl

-- what the body changes stays, whoever's it is
abbrev changed : Stmt
changed = pair n always t D.OutNbrs here (Combine (key 3) (ends 3) And (T.Property t m (at 6) ∷ []) (small ∷ []))

changed-stays : asked_outward changed ≡ changed
changed-stays = refl

-- three nodes: two edges from node 0 to node 1, one from node 2 to itself, one from node 1 to node 2
abbrev g : NumberedGraph
g = record {
  numbers = 0 ∷ 1 ∷ 2 ∷ [];
  edges = record { from = 0; to = 1 } ∷ record { from = 0; to = 1 } ∷ record { from = 2; to = 2 } ∷ record { from = 1; to = 2 } ∷ [];
  node_columns = (I32 (pos 5) ∷ I32 (pos 7) ∷ I32 (pos 0) ∷ []) ∷ (Flag true ∷ Flag true ∷ Flag false ∷ []) ∷ [];
  edge_columns = (I32 (pos 1) ∷ I32 (pos 2) ∷ I32 (pos 3) ∷ I32 (pos 4) ∷ []) ∷ [];
}

abbrev means : Stmt → Outcome
means s = mean (program s) g [] 9

-- parallel edges count twice, before and after; node 1 is not small
mixed-means : means mixed ≡ Done [] None ((I32 (pos 0) ∷ I32 (pos 10) ∷ I32 (pos 0) ∷ []) ∷ (I32 (pos 0) ∷ I32 (pos 0) ∷ I32 (pos 0) ∷ []) ∷ []) 0
mixed-means = refl

mixed-means-asked : means (asked_outward mixed) ≡ means mixed
mixed-means-asked = refl

-- the division faults at the edge to node 2, whose node is not small
abbrev faulting : Stmt
faulting = pair n always t D.OutNbrs (Both divided small) give

faulting-means : means faulting ≡ Fault DivideByZero (at 7)
faulting-means = refl

faulting-means-asked : means (asked_outward faulting) ≡ Fault DivideByZero (at 7)
faulting-means-asked = refl

-- conditions of a body that is one reduction join the filter, and those of the node the mask; what does nothing goes
abbrev guarded : Stmt
guarded = pair n always t D.OutNbrs always (Then (DeclareEdge e t (at 3)) (Then (If (key 3) there (If (key 3) small give Skip) Skip) Skip))

guarded-asked : asked_outward guarded ≡ pair n small t D.OutNbrs there give
guarded-asked = refl

guarded-told : told guarded ≡ ready
guarded-told = refl

guarded-means-asked : means (asked_outward guarded) ≡ means guarded
guarded-means-asked = refl

-- a condition that can fault stays where it is, and so does one with another branch
abbrev faulting_guard : Stmt
faulting_guard = pair n always t D.OutNbrs here (If (key 3) divided give Skip)

faulting_guard-stays : asked_outward faulting_guard ≡ pair n here t D.OutNbrs always (If (key 3) divided give Skip)
faulting_guard-stays = refl

abbrev two_ways : Stmt
two_ways = pair n always t D.OutNbrs always (If (key 3) there give (Combine (key 4) (ends 4) Sum (T.Property t x (at 6) ∷ []) (Const (I32 (pos 1)) ∷ [])))

two_ways-stays : asked_outward two_ways ≡ two_ways
two_ways-stays = refl
