-- Small programs in the last form of the passes, whose images break a rule.
use Rattle.std.specs.Prelude.{ℕ, zero, suc, true, false, pos, Some, None, List, [], ◌∷◌, map, codes}
use Rattle.gm_value.specs.declared.values.VType.TheVariants as V
use Rattle.gm_value.specs.declared.values.Value.TheVariants.{I64, Flag}
use Rattle.gm_value.specs.declared.operations.Op1.TheVariants as one
use Rattle.gm_value.specs.declared.reductions.Reduce.TheVariants as reduce
use Rattle.gm_ast.specs.declared.tree.Declaration.{Declaration}
use Rattle.gm_ast.specs.declared.tree.Domain.TheVariants.{Nodes, InNbrs, OutNbrs}
use Rattle.gm_ast.specs.declared.tree.Sort.TheVariants as Sorts
use Rattle.gm_ast.specs.Program.{Expr, always, Const, Live, Unary, Stmt, Declare, Assign, Combine, Foreach, Program, sequence}
use Rattle.gm_lowering.proofs.Samples.{declared, at, key, total, over, nodes, reduces, property, variable, scalar, to_property, int}

-- the variables: the graph; properties v and d; scalars r of Node, s, f of Bool, l of Long; the iterator n; locals x, y of Node, g of Bool; the iterator t
abbrev table : List Declaration
table =
    declared (codes "G") Sorts.Graph V.Node 0
    ∷ declared (codes "v") Sorts.NodeProperty V.I32 0
    ∷ declared (codes "r") Sorts.Scalar V.Node 0
    ∷ declared (codes "d") Sorts.NodeProperty V.I32 0
    ∷ declared (codes "s") Sorts.Scalar V.I32 0
    ∷ declared (codes "f") Sorts.Scalar V.Flag 0
    ∷ declared (codes "l") Sorts.Scalar V.I64 0
    ∷ declared (codes "n") Sorts.Iterator V.Node 1
    ∷ declared (codes "x") Sorts.Scalar V.I32 1
    ∷ declared (codes "y") Sorts.Scalar V.Node 1
    ∷ declared (codes "g") Sorts.Scalar V.Flag 1
    ∷ declared (codes "t") Sorts.Iterator V.Node 2
    ∷ []

abbrev program : List Stmt → Program
program body = record {
  name = codes "breaks";
  declarations = table;
  inputs = 3;
  outputs = 1;
  result = Some V.I32;
  statements = 20;
  body = sequence body;
}

abbrev tuple : ℕ → List ℕ → List Expr → Stmt
tuple k xs es = Combine (key k) (total k (at 1 k)) reduce.Min (map scalar xs) es

-- Foreach (n: G.Nodes) { n.d = (Int) n.v; }
abbrev pub int_casts : Program
int_casts = program (nodes 1 7 always (Assign (key 2) (to_property 7 3) (Unary one.ToI32 (at 1 2) (property 7 1)) ∷ []) ∷ [])

-- Long l = 1; l = (Long) l;
abbrev pub long_casts : Program
long_casts = program (
    Declare (key 1) 6 (Some (Const (I64 (pos 1))))
    ∷ Assign (key 2) (scalar 6) (Unary one.ToI64 (at 1 2) (variable 6))
    ∷ [])

-- Int s = 3; <s; r> min= <2; r>;
abbrev pub node_tuples : Program
node_tuples = program (Declare (key 1) 4 (Some (int 3)) ∷ tuple 2 (4 ∷ 2 ∷ []) (int 2 ∷ variable 2 ∷ []) ∷ [])

-- Foreach (n: G.Nodes) { Int x = n.v; Node y = n; <x; y> min= <3; r>; n.d = x; }
abbrev pub local_node_tuples : Program
local_node_tuples = program (
    nodes 1 7 always (
    Declare (key 2) 8 (Some (property 7 1))
    ∷ Declare (key 3) 9 (Some (variable 7))
    ∷ tuple 4 (8 ∷ 9 ∷ []) (int 3 ∷ variable 2 ∷ [])
    ∷ Assign (key 5) (to_property 7 3) (variable 8)
    ∷ [])
    ∷ [])

-- Int s = 3; Bool f = False; <s; f> min= <2; True>;
abbrev pub flag_tuples : Program
flag_tuples = program (
    Declare (key 1) 4 (Some (int 3))
    ∷ Declare (key 2) 5 (Some (Const (Flag false)))
    ∷ tuple 3 (4 ∷ 5 ∷ []) (int 2 ∷ Const (Flag true) ∷ [])
    ∷ [])

-- Long l = 9; Foreach (n: G.Nodes) { Int x = n.v; <l; x> min= <3; 4>; }
abbrev pub uneven_tuples : Program
uneven_tuples = program (
    Declare (key 1) 6 (Some (Const (I64 (pos 9))))
    ∷ nodes 2 7 always (
    Declare (key 3) 8 (Some (property 7 1))
    ∷ tuple 4 (6 ∷ 8 ∷ []) (Const (I64 (pos 3)) ∷ int 4 ∷ [])
    ∷ [])
    ∷ [])

-- Foreach (n: G.Nodes) { Foreach (t: n.InNbrs) { n.d += n.d; } }
abbrev pub reads_folded : Program
reads_folded = program (
    Foreach (key 1) (at 1 1) (over 7 Nodes 0) always (
    Foreach (key 2) (at 1 2) (over 11 InNbrs 7) always (reduces 3 (at 1 3) reduce.Sum (to_property 7 3) (property 7 3)))
    ∷ [])

-- Foreach (n: G.Nodes) { Foreach (t: n.Nbrs) { t.d += t.v; t.d max= n.v; } }
abbrev pub folds_twice : Program
folds_twice = program (
    Foreach (key 1) (at 1 1) (over 7 Nodes 0) always (
    Foreach (key 2) (at 1 2) (over 11 OutNbrs 7) always (sequence (
    reduces 3 (at 1 3) reduce.Sum (to_property 11 3) (property 11 1)
    ∷ reduces 4 (at 1 4) reduce.Max (to_property 11 3) (property 7 1)
    ∷ [])))
    ∷ [])

-- so many of one
abbrev many : {A : Type 0} → ℕ → A → List A
many zero x = []
many (suc n) x = x ∷ many n x

-- <s; ..; s> min= <1; ..; 1>, a tuple of so many entries
abbrev pub kept_tuple : ℕ → Program
kept_tuple n = program (tuple 1 (many n 4) (many n (int 1)) ∷ [])

-- r max= r, where r may be NIL
abbrev pub checked_pick : Program
checked_pick = program (Combine (key 1) (total 1 (at 1 1)) reduce.Max (scalar 2 ∷ []) (Live 2 (at 1 2) ∷ []) ∷ [])

-- Procedure copied(G: Graph, w: E_P<Int>) { Skip } with a copy of w in its table, which no text names
abbrev pub copied_edges : Program
copied_edges = record (program []) {
  declarations =
      declared (codes "G") Sorts.Graph V.Node 0
      ∷ declared (codes "w") Sorts.EdgeProperty V.I32 0
      ∷ declared [] Sorts.EdgeProperty V.I32 0
      ∷ [];
  inputs = 2;
  outputs = 0;
  result = None;
}
