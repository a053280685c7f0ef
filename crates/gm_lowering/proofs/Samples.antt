-- Small programs in the form that is lowered, and graphs.
use Rattle.std.specs.Prelude.{ℕ, true, false, pos, Some, None, List, [], ◌∷◌, map, codes}
use Rattle.gm_base.specs.declared.places.Place.{Place}
use Rattle.gm_value.specs.declared.values.VType.{VType}
use Rattle.gm_value.specs.declared.values.VType.TheVariants as V
use Rattle.gm_value.specs.declared.values.Value.{Value}
use Rattle.gm_value.specs.declared.values.Value.TheVariants.{I32, Flag}
use Rattle.gm_value.specs.declared.operations.Op2.TheVariants as two
use Rattle.gm_value.specs.declared.reductions.Reduce.{Reduce}
use Rattle.gm_value.specs.declared.reductions.Reduce.TheVariants as reduce
use Rattle.gm_model.specs.Graphs.{NumberedGraph, Edge}
use Rattle.gm_ast.specs.declared.tree.Declaration.{Declaration}
use Rattle.gm_ast.specs.declared.tree.Domain.{Domain}
use Rattle.gm_ast.specs.declared.tree.Domain.TheVariants.{Nodes, OutNbrs}
use Rattle.gm_ast.specs.declared.tree.Head.{Head}
use Rattle.gm_ast.specs.declared.tree.Key.{Key}
use Rattle.gm_ast.specs.declared.tree.Sort.{Sort}
use Rattle.gm_ast.specs.declared.tree.Sort.TheVariants as Sorts
use Rattle.gm_ast.specs.declared.tree.Stage.TheVariants.{Operator, Total}
use Rattle.gm_ast.specs.declared.tree.Target.{Target}
use Rattle.gm_ast.specs.declared.tree.Target.TheVariants as T
use Rattle.gm_ast.specs.declared.tree.TotalKey.{TotalKey}
use Rattle.gm_ast.specs.Program.{Expr, always, Const, Var, Property, EdgeProperty, Binary, Choose, Stmt, Declare, DeclareEdge, Assign, Combine, Foreach, While, Return, Program, sequence}

abbrev pub declared : List ℕ → Sort → VType → ℕ → Declaration
declared text sort t depth = record { name = text; variable = record { sort = sort; vtype = t; depth = depth } }

abbrev pub at : ℕ → ℕ → Place
at line col = record { line = line; col = col }

abbrev pub key : ℕ → Key
key n = record { statement = n; stage = Operator }

abbrev pub total : ℕ → Place → TotalKey
total n place = record { key = record { statement = n; stage = Total }; place = place; shown = place }

abbrev pub over : ℕ → Domain → ℕ → Head
over iterator domain owner = record { iterator = iterator; domain = domain; owner = owner; place = at 0 0 }

abbrev pub nodes : ℕ → ℕ → Expr → List Stmt → Stmt
nodes k n test body = Foreach (key k) (at 0 0) (over n Nodes 0) test (sequence body)

-- a loop whose body is one inner loop
abbrev pub around : ℕ → ℕ → Expr → Stmt → Stmt
around k n test inner = Foreach (key k) (at 0 0) (over n Nodes 0) test inner

abbrev pub neighbours : ℕ → ℕ → ℕ → Expr → List Stmt → Stmt
neighbours k t n test body = Foreach (key k) (at 0 0) (over t OutNbrs n) test (sequence body)

abbrev pub reduces : ℕ → Place → Reduce → Target → Expr → Stmt
reduces k place r target e = Combine (key k) (total k place) r (target ∷ []) (e ∷ [])

abbrev pub property : ℕ → ℕ → Expr
property x p = Property x p (at 0 0)

abbrev pub variable : ℕ → Expr
variable x = Var x (at 0 0)

abbrev pub scalar : ℕ → Target
scalar x = T.Scalar x (at 0 0)

abbrev pub to_property : ℕ → ℕ → Target
to_property x p = T.Property x p (at 0 0)

abbrev pub int : ℕ → Expr
int z = Const (I32 (pos z))

abbrev pub ints : List ℕ → List Value
ints zs = map (λ z. I32 (pos z)) zs

abbrev pub edge : ℕ → ℕ → Edge
edge from to = record { from = from; to = to }

abbrev pub graph : List ℕ → List Edge → List (List Value) → List (List Value) → NumberedGraph
graph numbers edges node_columns edge_columns = record { numbers = numbers; edges = edges; node_columns = node_columns; edge_columns = edge_columns }

-- Procedure sum(G: Graph, v: N_P<Int>; d: N_P<Int>) : Int {
--   Int s;
--   Foreach (n: G.Nodes) (n.v > 1) { Int x = n.v - 1; n.d = x * x; s += n.d; }
--   Return s;
-- }
abbrev pub sum : Program
sum = record {
  name = codes "sum";
  declarations =
      declared (codes "G") Sorts.Graph V.Node 0
      ∷ declared (codes "v") Sorts.NodeProperty V.I32 0
      ∷ declared (codes "d") Sorts.NodeProperty V.I32 0
      ∷ declared (codes "s") Sorts.Scalar V.I32 0
      ∷ declared (codes "n") Sorts.Iterator V.Node 1
      ∷ declared (codes "x") Sorts.Scalar V.I32 1
      ∷ [];
  inputs = 2;
  outputs = 1;
  result = Some V.I32;
  statements = 10;
  body = sequence (
      Declare (key 1) 3 None
      ∷ nodes 2 4 (Binary two.Gt (at 3 30) (property 4 1) (int 1)) (
      Declare (key 3) 5 (Some (Binary two.Sub (at 3 50) (property 4 1) (int 1)))
      ∷ Assign (key 4) (to_property 4 2) (Binary two.Mul (at 3 70) (variable 5) (variable 5))
      ∷ reduces 5 (at 3 80) reduce.Sum (scalar 3) (property 4 2)
      ∷ [])
      ∷ Return (key 6) (at 4 3) (Some (variable 3))
      ∷ []);
}

-- Procedure weigh(G: Graph, v: N_P<Int>, w: E_P<Int>; a: N_P<Int>) {
--   Foreach (n: G.Nodes) { Foreach (t: n.Nbrs) (t.v < n.v) { Edge e = t.ToEdge(); Int x = n.v - t.v; t.a += x * e.w; } }
-- }
abbrev pub weigh : Program
weigh = record {
  name = codes "weigh";
  declarations =
      declared (codes "G") Sorts.Graph V.Node 0
      ∷ declared (codes "v") Sorts.NodeProperty V.I32 0
      ∷ declared (codes "w") Sorts.EdgeProperty V.I32 0
      ∷ declared (codes "a") Sorts.NodeProperty V.I32 0
      ∷ declared (codes "n") Sorts.Iterator V.Node 1
      ∷ declared (codes "t") Sorts.Iterator V.Node 2
      ∷ declared (codes "e") Sorts.Edge V.Node 2
      ∷ declared (codes "x") Sorts.Scalar V.I32 2
      ∷ [];
  inputs = 3;
  outputs = 1;
  result = None;
  statements = 10;
  body = sequence (
      around 1 4 always (
      neighbours 2 5 4 (Binary two.Lt (at 2 50) (property 5 1) (property 4 1)) (
      DeclareEdge 6 5 (at 2 60)
      ∷ Declare (key 4) 7 (Some (Binary two.Sub (at 2 80) (property 4 1) (property 5 1)))
      ∷ reduces 5 (at 2 90) reduce.Sum (to_property 5 3) (Binary two.Mul (at 2 95) (variable 7) (EdgeProperty 6 2 (at 2 97)))
      ∷ []))
      ∷ []);
}

-- Procedure hops(G: Graph, root: Node; dist: N_P<Int>) {
--   N_P<Bool> on; Bool go = True; Int k = 0;
--   Foreach (n: G.Nodes) { n.dist = n == root ? 0 : 9; }
--   While (go) {
--     k = k + 1; go = False;
--     Foreach (n: G.Nodes) { n.on = n.dist == k - 1; }
--     Foreach (n: G.Nodes) (n.on) { Foreach (t: n.Nbrs) { t.dist min= k; } }
--     Foreach (n: G.Nodes) { go ||= n.dist == k; }
--   }
-- }
abbrev pub hops : Program
hops = record {
  name = codes "hops";
  declarations =
      declared (codes "G") Sorts.Graph V.Node 0
      ∷ declared (codes "root") Sorts.Scalar V.Node 0
      ∷ declared (codes "dist") Sorts.NodeProperty V.I32 0
      ∷ declared (codes "on") Sorts.NodeProperty V.Flag 0
      ∷ declared (codes "go") Sorts.Scalar V.Flag 0
      ∷ declared (codes "k") Sorts.Scalar V.I32 0
      ∷ declared (codes "n") Sorts.Iterator V.Node 1
      ∷ declared (codes "t") Sorts.Iterator V.Node 2
      ∷ [];
  inputs = 2;
  outputs = 1;
  result = None;
  statements = 20;
  body = sequence (
      Declare (key 1) 3 None
      ∷ Declare (key 2) 4 (Some (Const (Flag true)))
      ∷ Declare (key 3) 5 (Some (int 0))
      ∷ nodes 4 6 always (Assign (key 5) (to_property 6 2) (Choose (Binary two.Eq (at 3 40) (variable 6) (variable 1)) (int 0) (int 9)) ∷ [])
      ∷ While (key 6) (at 4 3) (variable 4) (sequence (
      Assign (key 7) (scalar 5) (Binary two.Add (at 5 11) (variable 5) (int 1))
      ∷ Assign (key 8) (scalar 4) (Const (Flag false))
      ∷ nodes 9 6 always (Assign (key 10) (to_property 6 3) (Binary two.Eq (at 6 43) (property 6 2) (Binary two.Sub (at 6 48) (variable 5) (int 1))) ∷ [])
      ∷ around 11 6 (property 6 3) (neighbours 12 7 6 always (reduces 13 (at 7 60) reduce.Min (to_property 7 2) (variable 5) ∷ []))
      ∷ nodes 14 6 always (reduces 15 (at 8 32) reduce.Or (scalar 4) (Binary two.Eq (at 8 45) (property 6 2) (variable 5)) ∷ [])
      ∷ []))
      ∷ []);
}
