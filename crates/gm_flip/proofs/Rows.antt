-- Worked rows: loops that pull and loops that stay, what they become, and what they mean.
use Rattle.std.specs.Prelude.{◌≡◌, ℕ, Bool, true, false, List, [], ◌∷◌, pos, None, refl}
use Rattle.gm_base.specs.declared.places.Place.{Place}
use Rattle.gm_value.specs.declared.faults.FaultKind.TheVariants.{DivideByZero, Overflow}
use Rattle.gm_value.specs.declared.values.VType.{VType}
use Rattle.gm_value.specs.declared.values.VType.TheVariants as V
use Rattle.gm_value.specs.declared.values.Value.TheVariants.{I32, Flag}
use Rattle.gm_value.specs.declared.operations.Op2.TheVariants as Op2
use Rattle.gm_value.specs.declared.reductions.Reduce.TheVariants.{Sum, Min, And}
use Rattle.gm_model.specs.Graphs.{NumberedGraph}
use Rattle.gm_model.specs.declared.outcomes.Outcome.{Outcome}
use Rattle.gm_model.specs.declared.outcomes.Outcome.TheVariants.{Done, Fault}
use Rattle.gm_ast.specs.declared.tree.Declaration.{Declaration}
use Rattle.gm_ast.specs.declared.tree.Sort.{Sort}
use Rattle.gm_ast.specs.declared.tree.Sort.TheVariants as Sorts
use Rattle.gm_ast.specs.declared.tree.Stage.TheVariants.{Operator, Total}
use Rattle.gm_ast.specs.declared.tree.Domain.{Domain}
use Rattle.gm_ast.specs.declared.tree.Domain.TheVariants as D
use Rattle.gm_ast.specs.declared.tree.Head.{Head}
use Rattle.gm_ast.specs.declared.tree.Key.{Key}
use Rattle.gm_ast.specs.declared.tree.Target.{Target}
use Rattle.gm_ast.specs.declared.tree.Target.TheVariants as T
use Rattle.gm_ast.specs.declared.tree.TotalKey.{TotalKey}
use Rattle.gm_ast.specs.Program.{Expr, always, Const, Property, EdgeProperty, Binary, Both, Stmt, Skip, Then, Declare, Combine, Foreach, If, Program}
use Rattle.gm_semantics.specs.Outcomes.{mean}
use Rattle.gm_forms.specs.Cut.{is_dissected, is_flipped}
use Rattle.gm_forms.specs.Order.{first_key, is_ordered}
use Rattle.gm_forms.specs.Sharing.{is_race_free}
use Rattle.gm_forms.specs.Typing.{has_types}
use Rattle.gm_forms.specs.Uses.{is_named}
use Rattle.gm_flip.specs.Flipped.{flipped, without_pulls}

abbrev row : Sort → VType → ℕ → Declaration
row sort t depth = record { name = []; variable = record { sort = sort; vtype = t; depth = depth } }

-- the graph; node properties: a and b of Int, m of Bool, x and y, the outputs; an edge property; the iterators; a scalar; a local of an outer body; an edge; a property that is declared in an inner body; another scalar; a local of an inner body
abbrev G : ℕ
G = 0

abbrev a : ℕ
a = 1

abbrev m : ℕ
m = 2

abbrev w : ℕ
w = 3

abbrev x : ℕ
x = 4

abbrev y : ℕ
y = 5

abbrev n : ℕ
n = 6

abbrev t : ℕ
t = 7

abbrev c : ℕ
c = 8

abbrev l : ℕ
l = 9

abbrev e : ℕ
e = 10

abbrev q : ℕ
q = 11

abbrev d : ℕ
d = 12

abbrev z : ℕ
z = 13

abbrev table : List Declaration
table =
    row Sorts.Graph V.I32 0 ∷ row Sorts.NodeProperty V.I32 0 ∷ row Sorts.NodeProperty V.Flag 0 ∷ row Sorts.EdgeProperty V.I32 0 ∷ row Sorts.NodeProperty V.I32 0 ∷ row Sorts.NodeProperty V.I32 0
    ∷ row Sorts.Iterator V.Node 1 ∷ row Sorts.Iterator V.Node 2 ∷ row Sorts.Scalar V.I32 0 ∷ row Sorts.Scalar V.I32 1 ∷ row Sorts.Edge V.I32 2 ∷ row Sorts.NodeProperty V.I32 2 ∷ row Sorts.Scalar V.I32 0 ∷ row Sorts.Scalar V.I32 2 ∷ []

abbrev at : ℕ → Place
at col = record { line = 1; col = col }

abbrev key : ℕ → Key
key s = record { statement = s; stage = Operator }

abbrev ends : ℕ → TotalKey
ends s = record { key = record { statement = s; stage = Total }; place = at 9; shown = at 9 }

abbrev nodes_of : ℕ → Head
nodes_of it = record { iterator = it; domain = D.Nodes; owner = G; place = at 1 }

abbrev over : ℕ → Domain → ℕ → Head
over it d owner = record { iterator = it; domain = d; owner = owner; place = at 2 }

-- Foreach (n: G.Nodes)(mask) { Foreach (t: n.d)(test) { body } }
abbrev pair : ℕ → Expr → ℕ → Domain → Expr → Stmt → Stmt
pair outer mask inner d test body = Foreach (key 1) (at 1) (nodes_of outer) mask (Foreach (key 2) (at 2) (over inner d outer) test body)

abbrev program : Stmt → Program
program s = record { name = []; declarations = table; inputs = 4; outputs = 2; result = None; statements = 9; body = s }

-- the loop that a pull is turned into: that over all nodes has no filter, and the first key
abbrev turned_pair : ℕ → ℕ → Domain → Expr → Stmt → Stmt
turned_pair outer inner d test body = Foreach first_key (at 1) (nodes_of outer) always (Foreach (key 2) (at 2) (over inner d outer) test body)

-- cut; ready for what every pass keeps; and what is left of it after
abbrev told : Stmt → List Bool
told s =
    is_dissected (program s) ∷ is_named (program s) ∷ has_types (program s) ∷ is_ordered (program s) ∷ is_race_free (program s) ∷ is_flipped (program s) ∷ is_flipped (without_pulls (program s)) ∷ []

abbrev pulling : List Bool
pulling = true ∷ true ∷ true ∷ true ∷ true ∷ false ∷ true ∷ []

abbrev going_out : List Bool
going_out = true ∷ true ∷ true ∷ true ∷ true ∷ true ∷ true ∷ []

abbrev mask : Expr
mask = Property n m (at 3)

abbrev their_a : Expr
their_a = Property t a (at 4)

abbrev add_to : Target → Expr → Stmt
add_to target value = Combine (key 3) (ends 3) Sum (target ∷ []) (value ∷ [])

-- n.x += t.a over n.InNbrs, under n.m and t.m
abbrev sum_in : Stmt
sum_in = pair n mask t D.InNbrs (Property t m (at 5)) (add_to (T.Property n x (at 6)) their_a)

sum_in-flipped : flipped sum_in ≡ turned_pair t n D.OutNbrs (Both mask (Property t m (at 5))) (add_to (T.Property n x (at 6)) their_a)
sum_in-flipped = refl

sum_in-told : told sum_in ≡ pulling
sum_in-told = refl

-- without a mask the filter stays as it is, and over n.Nbrs the other end goes over n.InNbrs
abbrev sum_out : Stmt
sum_out = pair n always t D.OutNbrs (Property t m (at 5)) (add_to (T.Property n x (at 6)) their_a)

sum_out-flipped : flipped sum_out ≡ turned_pair t n D.InNbrs (Property t m (at 5)) (add_to (T.Property n x (at 6)) their_a)
sum_out-flipped = refl

sum_out-told : told sum_out ≡ pulling
sum_out-told = refl

-- several reductions, onto properties and a scalar, a tuple among them, with an edge's property, stay in one body
abbrev many : Stmt
many =
    Then (add_to (T.Property n x (at 6)) (Binary Op2.Div (at 7) (Property t a (at 7)) (Property n a (at 8))))
    (Then (Combine (key 4) (ends 4) Min (T.Property n y (at 6) ∷ T.Property n a (at 7) ∷ []) (EdgeProperty e w (at 8) ∷ their_a ∷ []))
    (If (key 5) (Property t m (at 5)) (add_to (T.Scalar c (at 6)) (Const (I32 (pos 1)))) Skip))

abbrev several : Stmt
several = pair n mask t D.InNbrs always (Then (add_to (T.Property n x (at 6)) their_a) (Combine (key 4) (ends 4) Min (T.Property n y (at 6) ∷ []) (EdgeProperty e w (at 8) ∷ [])))

several-flipped : flipped several ≡ turned_pair t n D.OutNbrs (Both mask always) (Then (add_to (T.Property n x (at 6)) their_a) (Combine (key 4) (ends 4) Min (T.Property n y (at 6) ∷ []) (EdgeProperty e w (at 8) ∷ [])))
several-flipped = refl

several-told : told several ≡ pulling
several-told = refl

many-flipped : flipped (pair n mask t D.InNbrs always many) ≡ turned_pair t n D.OutNbrs (Both mask always) many
many-flipped = refl

-- what is reduced at the inner node is pushed, and stays
abbrev pushed : Stmt
pushed = pair n mask t D.OutNbrs (Property t m (at 5)) (add_to (T.Property t x (at 6)) (Property n a (at 7)))

pushed-stays : flipped pushed ≡ pushed
pushed-stays = refl

pushed-told : told pushed ≡ going_out
pushed-told = refl

-- what reads nothing of the inner node is done at home, and stays
abbrev home : Stmt
home = pair n mask t D.InNbrs always (add_to (T.Property n x (at 6)) (Property n a (at 7)))

home-stays : flipped home ≡ home
home-stays = refl

home-told : told home ≡ going_out
home-told = refl

-- an edge that is read against its direction is read at its start
abbrev weights : Stmt
weights = pair n mask t D.InNbrs always (add_to (T.Scalar c (at 6)) (EdgeProperty e w (at 7)))

weights-flipped : flipped weights ≡ turned_pair t n D.OutNbrs (Both mask always) (add_to (T.Scalar c (at 6)) (EdgeProperty e w (at 7)))
weights-flipped = refl

weights-told : told weights ≡ pulling
weights-told = refl

-- a sum over the inner nodes into a scalar is told by messages as it stands
abbrev totals : Stmt
totals = pair n mask t D.OutNbrs always (add_to (T.Scalar c (at 6)) their_a)

totals-stay : flipped totals ≡ totals
totals-stay = refl

-- three nodes: two edges from node 0 to node 1, one from node 2 to itself, one from node 1 to node 2
abbrev g : NumberedGraph
g = record {
  numbers = 0 ∷ 1 ∷ 2 ∷ [];
  edges = record { from = 0; to = 1 } ∷ record { from = 0; to = 1 } ∷ record { from = 2; to = 2 } ∷ record { from = 1; to = 2 } ∷ [];
  node_columns = (I32 (pos 5) ∷ I32 (pos 7) ∷ I32 (pos 0) ∷ []) ∷ (Flag true ∷ Flag true ∷ Flag false ∷ []) ∷ [];
  edge_columns = (I32 (pos 1) ∷ I32 (pos 2) ∷ I32 (pos 3) ∷ I32 (pos 4) ∷ []) ∷ [];
}

abbrev means : Stmt → Outcome
means s = mean (program s) g [] 9

-- parallel edges count twice, before and after
sum_in-means : means sum_in ≡ Done [] None ((I32 (pos 0) ∷ I32 (pos 10) ∷ I32 (pos 0) ∷ []) ∷ (I32 (pos 0) ∷ I32 (pos 0) ∷ I32 (pos 0) ∷ []) ∷ []) 0
sum_in-means = refl

sum_in-means-flipped : means (flipped sum_in) ≡ means sum_in
sum_in-means-flipped = refl

several-means-flipped : means (flipped several) ≡ means several
several-means-flipped = refl

many-means-flipped : means (flipped (pair n mask t D.InNbrs always many)) ≡ means (pair n mask t D.InNbrs always many)
many-means-flipped = refl

-- what divides faults at the same place, under the same filters
abbrev shares_out : Stmt
shares_out = pair n (Property n m (at 3)) t D.OutNbrs always (add_to (T.Property n x (at 6)) (Binary Op2.Div (at 7) (Const (I32 (pos 9))) their_a))

shares_out-faults : means shares_out ≡ Fault DivideByZero (at 7)
shares_out-faults = refl

shares_out-faults-flipped : means (flipped shares_out) ≡ Fault DivideByZero (at 7)
shares_out-faults-flipped = refl

-- What may not be turned is not cut, though it keep what every pass keeps
abbrev before : Stmt → List Bool
before s = is_dissected (program s) ∷ is_named (program s) ∷ has_types (program s) ∷ is_ordered (program s) ∷ is_race_free (program s) ∷ []

abbrev refused : List Bool
refused = false ∷ true ∷ true ∷ true ∷ true ∷ []

-- a reduction to a local of an outer body overflows at the node that two edges reach, and at none that they leave
abbrev local_sum : Stmt
local_sum = pair n always t D.InNbrs always (add_to (T.Scalar l (at 6)) (EdgeProperty e w (at 7)))

abbrev heavy : NumberedGraph
heavy = record g {
  edges = record { from = 0; to = 2 } ∷ record { from = 1; to = 2 } ∷ [];
  edge_columns = (I32 (pos 2000000000) ∷ I32 (pos 2000000000) ∷ []) ∷ [];
}

local_sum-refused : before local_sum ≡ refused
local_sum-refused = refl

local_sum-faults : mean (program local_sum) heavy [] 9 ≡ Fault Overflow (at 9)
local_sum-faults = refl

local_sum-turned : mean (program (flipped local_sum)) heavy [] 9 ≡ Done [] None ((I32 (pos 0) ∷ I32 (pos 0) ∷ I32 (pos 0) ∷ []) ∷ (I32 (pos 0) ∷ I32 (pos 0) ∷ I32 (pos 0) ∷ []) ∷ []) 0
local_sum-turned = refl

-- a saved filter that the body reduces would be read in the loop that pushes it
abbrev mask_reduced : Stmt
mask_reduced = pair n mask t D.InNbrs always (Combine (key 3) (ends 3) And (T.Property n m (at 6) ∷ []) (Binary Op2.Lt (at 7) their_a (Const (I32 (pos 3))) ∷ []))

mask_reduced-refused : before mask_reduced ≡ refused
mask_reduced-refused = refl

mask_reduced-races : is_race_free (program (flipped mask_reduced)) ≡ false
mask_reduced-races = refl

-- a property that an inner body declares and reduces would be written in the loop that pushes it
abbrev declared : Stmt
declared = pair n always t D.InNbrs always (Then (Declare (key 3) q None) (add_to (T.Property n q (at 6)) their_a))

declared-refused : before declared ≡ false ∷ false ∷ true ∷ true ∷ true ∷ []
declared-refused = refl

declared-races : is_race_free (program (flipped declared)) ≡ false
declared-races = refl

-- where the inner loop's key comes behind its body's, the loop is not in order, and no pass leaves it so
abbrev late_key : Stmt
late_key = Foreach (key 1) (at 1) (nodes_of n) mask (Foreach (key 5) (at 2) (over t D.InNbrs n) always (add_to (T.Property n x (at 6)) their_a))

late_key-refused : before late_key ≡ true ∷ true ∷ true ∷ false ∷ true ∷ []
late_key-refused = refl

-- two picks that share a local of the inner body leave it as the last of them does, which may be another in the turned loop
abbrev shared_local : Stmt
shared_local =
    pair n always t D.InNbrs always
    (Then (Combine (key 3) (ends 3) Min (T.Scalar c (at 6) ∷ T.Scalar z (at 6) ∷ []) (EdgeProperty e w (at 7) ∷ EdgeProperty e w (at 7) ∷ []))
    (Combine (key 4) (ends 4) Min (T.Scalar d (at 6) ∷ T.Scalar z (at 6) ∷ []) (EdgeProperty e w (at 7) ∷ EdgeProperty e w (at 7) ∷ [])))

shared_local-refused : before shared_local ≡ refused
shared_local-refused = refl

-- a mask may be any expression of the node that cannot fault, and moves to the other end
abbrev bound_mask : Expr
bound_mask = Both mask (Binary Op2.Lt (at 4) (Property n a (at 3)) (Const (I32 (pos 7))))

abbrev masked : Stmt
masked = pair n bound_mask t D.InNbrs (Property t m (at 5)) (add_to (T.Property n x (at 6)) their_a)

masked-flipped : flipped masked ≡ turned_pair t n D.OutNbrs (Both bound_mask (Property t m (at 5))) (add_to (T.Property n x (at 6)) their_a)
masked-flipped = refl

masked-told : told masked ≡ pulling
masked-told = refl

masked-means-flipped : means (flipped masked) ≡ means masked
masked-means-flipped = refl
