-- Small programs of the other forms that are lowered.
use Rattle.std.specs.Prelude.{Some, None, List, [], ◌∷◌, codes}
use Rattle.gm_value.specs.declared.values.VType.TheVariants as V
use Rattle.gm_value.specs.declared.operations.Op1.TheVariants as one
use Rattle.gm_value.specs.declared.operations.Op2.TheVariants as two
use Rattle.gm_value.specs.declared.reductions.Reduce.TheVariants as reduce
use Rattle.gm_ast.specs.declared.tree.Declaration.{Declaration}
use Rattle.gm_ast.specs.declared.tree.Domain.TheVariants.{Nodes, InNbrs, OutNbrs}
use Rattle.gm_ast.specs.declared.tree.Sort.TheVariants as Sorts
use Rattle.gm_ast.specs.Program.{always, Unary, Binary, Choose, Stmt, Skip, Declare, Assign, Combine, Foreach, For, If, Do, Return, Program, sequence}
use Rattle.gm_lowering.proofs.Samples.{declared, at, key, total, over, nodes, reduces, property, variable, scalar, to_property, int}

-- the variables: the graph; properties v, a, b, p; scalars r, s, k, f; iterators n, t; locals q, x, z of an outer and y, w, u of an inner body; the iterator c of a For
abbrev table : List Declaration
table =
    declared (codes "G") Sorts.Graph V.Node 0
    ∷ declared (codes "v") Sorts.NodeProperty V.I32 0
    ∷ declared (codes "r") Sorts.Scalar V.Node 0
    ∷ declared (codes "a") Sorts.NodeProperty V.I32 0
    ∷ declared (codes "b") Sorts.NodeProperty V.I32 0
    ∷ declared (codes "s") Sorts.Scalar V.I32 0
    ∷ declared (codes "k") Sorts.Scalar V.I32 0
    ∷ declared (codes "p") Sorts.NodeProperty V.Node 0
    ∷ declared (codes "f") Sorts.Scalar V.Flag 0
    ∷ declared (codes "n") Sorts.Iterator V.Node 1
    ∷ declared (codes "t") Sorts.Iterator V.Node 2
    ∷ declared (codes "q") Sorts.Scalar V.Node 1
    ∷ declared (codes "y") Sorts.Scalar V.I32 2
    ∷ declared (codes "c") Sorts.Iterator V.Node 0
    ∷ declared (codes "x") Sorts.Scalar V.I32 1
    ∷ declared (codes "z") Sorts.Scalar V.I64 1
    ∷ declared (codes "w") Sorts.Scalar V.I32 2
    ∷ declared (codes "u") Sorts.Scalar V.Node 2
    ∷ []

abbrev program : List Stmt → Program
program body = record {
  name = codes "more";
  declarations = table;
  inputs = 3;
  outputs = 2;
  result = Some V.I32;
  statements = 20;
  body = sequence body;
}

-- Foreach (n: G.Nodes) (n.v > 0) { Foreach (t: n.InNbrs) (t != n) { Int y = n.v * 2; y = y + 1; n.a += y; s max= y; } }
abbrev pub home : Program
home = program (
    Declare (key 1) 5 None
    ∷ Foreach (key 2) (at 1 1) (over 9 Nodes 0) always (
    Foreach (key 3) (at 1 2) (over 10 InNbrs 9) (Binary two.Ne (at 1 3) (variable 10) (variable 9)) (sequence (
    Declare (key 4) 12 (Some (Binary two.Mul (at 1 4) (property 9 1) (int 2)))
    ∷ Assign (key 5) (scalar 12) (Binary two.Add (at 1 5) (variable 12) (int 1))
    ∷ reduces 6 (at 1 6) reduce.Sum (to_property 9 3) (variable 12)
    ∷ reduces 7 (at 1 7) reduce.Max (scalar 5) (variable 12)
    ∷ [])))
    ∷ Return (key 8) (at 1 8) (Some (variable 5))
    ∷ [])

-- Foreach (n: G.Nodes) { n.p = n.v > 3 ? r : n; } Foreach (n: G.Nodes) { Node q = n.p; q.a += n.v; }
abbrev pub random : Program
random = program (
    Declare (key 1) 7 None
    ∷ nodes 1 9 always (Assign (key 2) (to_property 9 7) (Choose (Binary two.Gt (at 1 1) (property 9 1) (int 3)) (variable 2) (variable 9)) ∷ [])
    ∷ Foreach (key 2) (at 1 1) (over 9 Nodes 0) always (sequence (
    Declare (key 3) 11 (Some (property 9 7))
    ∷ Combine (key 4) (total 4 (at 1 4)) reduce.Sum (to_property 11 3 ∷ []) (property 9 1 ∷ [])
    ∷ []))
    ∷ [])

-- Foreach (n: G.Nodes) { Int x = n.v; Long z; x min= 4; n.a max= x; <n.a; n.b> min= <x; n.v>; <x; z> max= <n.v + 1; (Long) n.b>; n.b = n.b + x; <s; k> min= <n.b; n.v>; }
abbrev pub picks : Program
picks = program (
    Declare (key 1) 5 (Some (int 100))
    ∷ Declare (key 2) 6 (Some (int 0))
    ∷ nodes 3 9 always (
    Declare (key 4) 14 (Some (property 9 1))
    ∷ Declare (key 4) 15 None
    ∷ reduces 5 (at 1 5) reduce.Min (scalar 14) (int 4)
    ∷ reduces 6 (at 1 6) reduce.Max (to_property 9 3) (variable 14)
    ∷ Combine (key 7) (total 7 (at 1 7)) reduce.Min (to_property 9 3 ∷ to_property 9 4 ∷ []) (variable 14 ∷ property 9 1 ∷ [])
    ∷ Combine (key 8) (total 8 (at 1 8)) reduce.Max (scalar 14 ∷ scalar 15 ∷ []) (Binary two.Add (at 1 8) (property 9 1) (int 1) ∷ Unary one.ToI64 (at 1 8) (property 9 4) ∷ [])
    ∷ Assign (key 9) (to_property 9 4) (Binary two.Add (at 1 9) (property 9 4) (variable 14))
    ∷ Combine (key 10) (total 10 (at 1 10)) reduce.Min (scalar 5 ∷ scalar 6 ∷ []) (property 9 4 ∷ property 9 1 ∷ [])
    ∷ [])
    ∷ Return (key 11) (at 1 11) (Some (Binary two.Add (at 1 12) (Binary two.Mul (at 1 11) (variable 5) (int 100)) (variable 6)))
    ∷ [])

-- Foreach (n: G.Nodes) { n.a max= n.v; If (n.v > 3) { <n.a; n.b> min= <n.v - 4; n.v>; } n.b = n.b + n.a; s max= n.b; } Return s;
abbrev pub folds : Program
folds = program (
    Declare (key 1) 5 None
    ∷ nodes 2 9 always (
    reduces 3 (at 1 3) reduce.Max (to_property 9 3) (property 9 1)
    ∷ If (key 4) (Binary two.Gt (at 1 4) (property 9 1) (int 3)) (
    Combine (key 5) (total 5 (at 1 5)) reduce.Min (to_property 9 3 ∷ to_property 9 4 ∷ []) (Binary two.Sub (at 1 5) (property 9 1) (int 4) ∷ property 9 1 ∷ [])) Skip
    ∷ Assign (key 6) (to_property 9 4) (Binary two.Add (at 1 6) (property 9 4) (property 9 3))
    ∷ reduces 7 (at 1 7) reduce.Max (scalar 5) (property 9 4)
    ∷ [])
    ∷ Return (key 8) (at 1 8) (Some (variable 5))
    ∷ [])

-- Foreach (n: G.Nodes) { Int x = n.v; x min= 4; n.a max= x; x max= n.v - 4; n.b = x; s max= x; } Return s;
abbrev pub bounds : Program
bounds = program (
    Declare (key 1) 5 None
    ∷ nodes 2 9 always (
    Declare (key 3) 14 (Some (property 9 1))
    ∷ reduces 4 (at 1 4) reduce.Min (scalar 14) (int 4)
    ∷ reduces 5 (at 1 5) reduce.Max (to_property 9 3) (variable 14)
    ∷ reduces 6 (at 1 6) reduce.Max (scalar 14) (Binary two.Sub (at 1 6) (property 9 1) (int 4))
    ∷ Assign (key 7) (to_property 9 4) (variable 14)
    ∷ reduces 8 (at 1 8) reduce.Max (scalar 5) (variable 14)
    ∷ [])
    ∷ Return (key 9) (at 1 9) (Some (variable 5))
    ∷ [])

-- Foreach (n: G.Nodes) { Foreach (t: n.Nbrs) (t.v < n.v + 9) { Int y = n.v + t.v; y min= 8; t.a += y; s max= y; } } Return s;
abbrev pub caps : Program
caps = program (
    Declare (key 1) 5 None
    ∷ Foreach (key 2) (at 1 1) (over 9 Nodes 0) always (
    Foreach (key 3) (at 1 2) (over 10 OutNbrs 9) (Binary two.Lt (at 1 3) (property 10 1) (Binary two.Add (at 1 4) (property 9 1) (int 9))) (sequence (
    Declare (key 4) 12 (Some (Binary two.Add (at 1 5) (property 9 1) (property 10 1)))
    ∷ reduces 5 (at 1 6) reduce.Min (scalar 12) (int 8)
    ∷ reduces 6 (at 1 7) reduce.Sum (to_property 10 3) (variable 12)
    ∷ reduces 7 (at 1 8) reduce.Max (scalar 5) (variable 12)
    ∷ [])))
    ∷ Return (key 8) (at 1 9) (Some (variable 5))
    ∷ [])

-- Foreach (n: G.Nodes) { Foreach (t: n.Nbrs) { Int y = t.v; Int w = n.v; <y; w> min= <n.v; t.v>; t.a += y; t.b max= w; } } Return 0;
abbrev pub pairs : Program
pairs = program (
    Foreach (key 1) (at 1 1) (over 9 Nodes 0) always (
    Foreach (key 2) (at 1 2) (over 10 OutNbrs 9) always (sequence (
    Declare (key 3) 12 (Some (property 10 1))
    ∷ Declare (key 4) 16 (Some (property 9 1))
    ∷ Combine (key 5) (total 5 (at 1 5)) reduce.Min (scalar 12 ∷ scalar 16 ∷ []) (property 9 1 ∷ property 10 1 ∷ [])
    ∷ reduces 6 (at 1 6) reduce.Sum (to_property 10 3) (variable 12)
    ∷ reduces 7 (at 1 7) reduce.Max (to_property 10 4) (variable 16)
    ∷ [])))
    ∷ Return (key 8) (at 1 8) (Some (int 0))
    ∷ [])

-- Foreach (n: G.Nodes) { Foreach (t: n.InNbrs) (t != n) { Int y; Int w = n.v; y max= w - 5; <y; w> min= <3; y>; n.a += y; n.b max= w; s max= y; } } Return s;
abbrev pub tops : Program
tops = program (
    Declare (key 1) 5 None
    ∷ Foreach (key 2) (at 1 1) (over 9 Nodes 0) always (
    Foreach (key 3) (at 1 2) (over 10 InNbrs 9) (Binary two.Ne (at 1 3) (variable 10) (variable 9)) (sequence (
    Declare (key 4) 12 None
    ∷ Declare (key 5) 16 (Some (property 9 1))
    ∷ reduces 6 (at 1 6) reduce.Max (scalar 12) (Binary two.Sub (at 1 6) (variable 16) (int 5))
    ∷ Combine (key 7) (total 7 (at 1 7)) reduce.Min (scalar 12 ∷ scalar 16 ∷ []) (int 3 ∷ variable 12 ∷ [])
    ∷ reduces 8 (at 1 8) reduce.Sum (to_property 9 3) (variable 12)
    ∷ reduces 9 (at 1 9) reduce.Max (to_property 9 4) (variable 16)
    ∷ reduces 10 (at 1 10) reduce.Max (scalar 5) (variable 12)
    ∷ [])))
    ∷ Return (key 11) (at 1 11) (Some (variable 5))
    ∷ [])

-- Foreach (n: G.Nodes) { Foreach (t: n.Nbrs) (n.v > 2) { Int y = n.v; Int w = 5; y min= 8; <w; y> max= <y; 6>; t.a += w + y; } } Return 0;
abbrev pub gifts : Program
gifts = program (
    Foreach (key 1) (at 1 1) (over 9 Nodes 0) always (
    Foreach (key 2) (at 1 2) (over 10 OutNbrs 9) (Binary two.Gt (at 1 3) (property 9 1) (int 2)) (sequence (
    Declare (key 3) 12 (Some (property 9 1))
    ∷ Declare (key 4) 16 (Some (int 5))
    ∷ reduces 5 (at 1 5) reduce.Min (scalar 12) (int 8)
    ∷ Combine (key 6) (total 6 (at 1 6)) reduce.Max (scalar 16 ∷ scalar 12 ∷ []) (variable 12 ∷ int 6 ∷ [])
    ∷ reduces 7 (at 1 7) reduce.Sum (to_property 10 3) (Binary two.Add (at 1 8) (variable 16) (variable 12))
    ∷ [])))
    ∷ Return (key 8) (at 1 9) (Some (int 0))
    ∷ [])

-- Foreach (n: G.Nodes) { n.p = n.v > 3 ? r : n; } Foreach (n: G.Nodes) { Foreach (t: n.InNbrs) (t.v < n.v + 3) { Node u = t.p; t.a += n.v; s max= t.v; u.b += n.v + t.v; } } Return s;
abbrev pub marks : Program
marks = program (
    Declare (key 1) 5 None
    ∷ nodes 2 9 always (Assign (key 3) (to_property 9 7) (Choose (Binary two.Gt (at 1 1) (property 9 1) (int 3)) (variable 2) (variable 9)) ∷ [])
    ∷ Foreach (key 4) (at 1 2) (over 9 Nodes 0) always (
    Foreach (key 5) (at 1 3) (over 10 InNbrs 9) (Binary two.Lt (at 1 4) (property 10 1) (Binary two.Add (at 1 5) (property 9 1) (int 3))) (sequence (
    Declare (key 6) 17 (Some (property 10 7))
    ∷ reduces 7 (at 1 6) reduce.Sum (to_property 10 3) (property 9 1)
    ∷ reduces 8 (at 1 7) reduce.Max (scalar 5) (property 10 1)
    ∷ reduces 9 (at 1 8) reduce.Sum (to_property 17 4) (Binary two.Add (at 1 9) (property 9 1) (property 10 1))
    ∷ [])))
    ∷ Return (key 10) (at 1 10) (Some (variable 5))
    ∷ [])

-- For (c: G.Nodes) (c != r) { k = k + 1; If (k > 2) { Return s; } Else { s = s + k; } Do { s = s * 2; f = s < 10; } While (f); } <s; k> min= <k; s>; If (s < 3) { s = 7; } Return s;
abbrev pub turns : Program
turns = program (
    Declare (key 1) 5 None
    ∷ Declare (key 2) 6 None
    ∷ For (key 3) (at 1 3) (over 13 Nodes 0) (Binary two.Ne (at 1 4) (variable 13) (variable 2)) (sequence (
    Assign (key 4) (scalar 6) (Binary two.Add (at 1 5) (variable 6) (int 1))
    ∷ If (key 5) (Binary two.Gt (at 1 6) (variable 6) (int 2)) (Return (key 6) (at 1 7) (Some (variable 5))) (sequence (Assign (key 7) (scalar 5) (Binary two.Add (at 1 8) (variable 5) (variable 6)) ∷ []))
    ∷ Do (key 8) (at 1 9) (sequence (
    Assign (key 9) (scalar 5) (Binary two.Mul (at 1 10) (variable 5) (int 2))
    ∷ Assign (key 10) (scalar 8) (Binary two.Lt (at 1 11) (variable 5) (int 10))
    ∷ [])) (variable 8)
    ∷ []))
    ∷ Combine (key 11) (total 11 (at 1 12)) reduce.Min (scalar 5 ∷ scalar 6 ∷ []) (variable 6 ∷ variable 5 ∷ [])
    ∷ If (key 12) (Binary two.Lt (at 1 13) (variable 5) (int 3)) (sequence (Assign (key 13) (scalar 5) (int 7) ∷ [])) Skip
    ∷ Return (key 14) (at 1 14) (Some (variable 5))
    ∷ [])
