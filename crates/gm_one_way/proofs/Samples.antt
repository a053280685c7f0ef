-- Rows of inner loops that read an edge.
use Rattle.std.specs.Prelude.{◌≡◌, ℕ, nat_eq, Bool, true, false, ◌||◌, List, [], ◌∷◌, pos, Some, None, refl}
use Rattle.gm_base.specs.declared.places.Place.{Place}
use Rattle.gm_base.specs.declared.rules.Rule.TheVariants.{C7}
use Rattle.gm_base.specs.Rules.{broken_at}
use Rattle.gm_value.specs.declared.operations.Op2.TheVariants.{Add}
use Rattle.gm_value.specs.declared.reductions.Reduce.{Reduce}
use Rattle.gm_value.specs.declared.reductions.Reduce.TheVariants.{Sum, Min}
use Rattle.gm_value.specs.declared.values.Value.TheVariants.{I32}
use Rattle.gm_value.specs.declared.values.VType.{VType}
use Rattle.gm_value.specs.declared.values.VType.TheVariants as V
use Rattle.gm_ast.specs.declared.tree.Declaration.{Declaration}
use Rattle.gm_ast.specs.declared.tree.Domain.{Domain}
use Rattle.gm_ast.specs.declared.tree.Domain.TheVariants.{Nodes, OutNbrs, InNbrs}
use Rattle.gm_ast.specs.declared.tree.Head.{Head}
use Rattle.gm_ast.specs.declared.tree.Key.{Key}
use Rattle.gm_ast.specs.declared.tree.Sort.{Sort}
use Rattle.gm_ast.specs.declared.tree.Sort.TheVariants as Sorts
use Rattle.gm_ast.specs.declared.tree.Stage.TheVariants.{Operator, Total}
use Rattle.gm_ast.specs.declared.tree.Target.{Target}
use Rattle.gm_ast.specs.declared.tree.Target.TheVariants as T
use Rattle.gm_ast.specs.Canonical.{uncanonical}
use Rattle.gm_ast.specs.Program.{Expr, Const, Var, Property, EdgeProperty, Binary, always, Stmt, Declare, DeclareEdge, Combine, Foreach, Program, sequence}
use Rattle.gm_ast.specs.Races.{races}
use Rattle.gm_ast.specs.Ways.{is_edge_read}
use Rattle.gm_cut.specs.Lean.{has_slices_that_go, has_statements_that_go}
use Rattle.gm_cut.specs.Parts.{in_pieces}
use Rattle.gm_parting.specs.Apart.{with_statements_apart}
use Rattle.gm_parting.specs.Passes.{prepared}
use Rattle.gm_one_way.specs.Along.{marks, goes_along, ReadsAlong}

abbrev at : ℕ → Place
at line = record { line = line; col = 1 }

abbrev key : ℕ → Key
key k = record { statement = k; stage = Operator }

abbrev row : Sort → VType → ℕ → Declaration
row sort vtype depth = record { name = []; variable = record { sort = sort; vtype = vtype; depth = depth } }

-- 0: the graph; 1: the outer iterator n; 2: the inner one, t; 3, 4: the numbers a and c of a node; 5: the number w of an edge; 6: the edge e; 7, 8: the numbers x and y, locals of the inner body
abbrev table : List Declaration
table =
    row Sorts.Graph V.I32 0 ∷ row Sorts.Iterator V.Node 1 ∷ row Sorts.Iterator V.Node 2 ∷ row Sorts.NodeProperty V.I32 0 ∷ row Sorts.NodeProperty V.I32 0 ∷ row Sorts.EdgeProperty V.I32 0 ∷ row Sorts.Edge V.I32 2 ∷ row Sorts.Scalar V.I32 2 ∷ row Sorts.Scalar V.I32 2 ∷ []

abbrev inner : Domain → Head
inner d = record { iterator = 2; domain = d; owner = 1; place = at 2 }

-- Foreach (n: G.Nodes) { Foreach (t: n.Nbrs) { Edge e = t.ToEdge(); .. } }
abbrev program : Domain → List Stmt → Program
program d ss = record {
  name = [];
  declarations = table;
  inputs = 6;
  outputs = 0;
  result = None;
  statements = 9;
  body = Foreach (key 1) (at 1) (record { iterator = 1; domain = Nodes; owner = 0; place = at 1 }) always (Foreach (key 2) (at 2) (inner d) always (sequence (DeclareEdge 6 2 (at 3) ∷ ss)));
}

abbrev number : ℕ → Expr
number n = Const (I32 (pos n))

abbrev w : ℕ → Expr
w line = EdgeProperty 6 5 (at line)

abbrev gives : ℕ → Reduce → List Target → List Expr → Stmt
gives line op ts es = Combine (key line) (record { key = record { statement = line; stage = Total }; place = at line; shown = at line }) op ts es

abbrev goes : Program → Bool
goes p = has_statements_that_go (with_statements_apart (in_pieces (prepared p)))

-- ---- Int x = e.w; t.c += x; n.c += t.a;

abbrev both_ends : Program
both_ends =
    program OutNbrs (Declare (key 4) 7 (Some (w 4)) ∷ gives 5 Sum (T.Property 2 4 (at 5) ∷ []) (Var 7 (at 5) ∷ []) ∷ gives 6 Sum (T.Property 1 4 (at 6) ∷ []) (Property 2 3 (at 6) ∷ []) ∷ [])

-- x rests on the edge; the push may read it, and the pull does not
both_ends-along : ReadsAlong both_ends
both_ends-along = record { edges = nat_eq 7; ends = λ x. false; edges_marked = refl; ends_marked = refl; along = refl }

both_ends-goes : goes both_ends ≡ true
both_ends-goes = refl

-- ---- Int x = e.w; n.c += x + t.a;

abbrev against : Domain → Program
against d = program d (Declare (key 4) 7 (Some (w 4)) ∷ gives 5 Sum (T.Property 1 4 (at 5) ∷ []) (Binary Add (at 5) (Var 7 (at 5)) (Property 2 3 (at 5)) ∷ []) ∷ [])

-- where x is marked, as it must be, the pull reads the edge against its way; along edges that come in it may
against-row : (marks table 1 is_edge_read (λ x. false) false (Declare (key 4) 7 (Some (w 4))) || goes_along table 1 (inner OutNbrs) (nat_eq 7) (λ x. false) false false (gives 5 Sum (T.Property 1 4 (at 5) ∷ []) (Binary Add (at 5) (Var 7 (at 5)) (Property 2 3 (at 5)) ∷ []))) ≡ false
against-row = refl

against-goes : goes (against OutNbrs) ≡ false
against-goes = refl

within-along : ReadsAlong (against InNbrs)
within-along = record { edges = nat_eq 7; ends = λ x. false; edges_marked = refl; ends_marked = refl; along = refl }

-- ---- Int x = e.w; Int y = 0; <x; y> min= <t.a; 3>; n.c += y;

-- what is reduced together at once is compared: y rests on what x holds, and so on the edge, though nothing that is written to y mentions x
abbrev compared : List Stmt
compared =
    Declare (key 4) 7 (Some (w 4)) ∷ Declare (key 5) 8 (Some (number 0)) ∷ gives 6 Min (T.Scalar 7 (at 6) ∷ T.Scalar 8 (at 6) ∷ []) (Property 2 3 (at 6) ∷ number 3 ∷ []) ∷ gives 7 Sum (T.Property 1 4 (at 7) ∷ []) (Var 8 (at 7) ∷ []) ∷ []

-- it breaks rule C7 over out-edges, whose support counts that, and along edges that come in it breaks none
compared-broken : uncanonical (program OutNbrs compared) ≡ broken_at C7 (at 4) ∷ []
compared-broken = refl

compared-canonical : uncanonical (program InNbrs compared) ≡ []
compared-canonical = refl

compared-races : races (program OutNbrs compared) ≡ []
compared-races = refl

-- over out-edges its last statement goes no way, and its slices do not
compared-goes : goes (program OutNbrs compared) ≡ false
compared-goes = refl

compared-slices : has_slices_that_go (with_statements_apart (in_pieces (prepared (program OutNbrs compared)))) ≡ false
compared-slices = refl

-- whoever marks x marks y with it
compared-row : marks table 1 is_edge_read (nat_eq 7) false (sequence compared) ≡ false
compared-row = refl
