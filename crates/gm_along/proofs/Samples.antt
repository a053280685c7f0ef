-- Rows of inner bodies that write locals.
use Rattle.std.proofs.Common.{◌≡◌, ℕ, true, false, List, [], ◌∷◌, refl, arith, Some, None}
use Rattle.std.specs.Prelude.{pos}
use Rattle.gm_base.specs.declared.places.Place.{Place}
use Rattle.gm_value.specs.declared.values.Value.TheVariants.{I32}
use Rattle.gm_value.specs.declared.values.VType.{VType}
use Rattle.gm_value.specs.declared.values.VType.TheVariants as V
use Rattle.gm_ast.specs.declared.tree.Declaration.{Declaration}
use Rattle.gm_ast.specs.declared.tree.Domain.TheVariants.{Nodes, OutNbrs}
use Rattle.gm_ast.specs.declared.tree.Key.{Key}
use Rattle.gm_ast.specs.declared.tree.Sort.{Sort}
use Rattle.gm_ast.specs.declared.tree.Sort.TheVariants as Sorts
use Rattle.gm_ast.specs.declared.tree.Stage.TheVariants.{Operator}
use Rattle.gm_ast.specs.declared.tree.Target.TheVariants as T
use Rattle.gm_ast.specs.Program.{Expr, Const, always, Stmt, Declare, Assign, Foreach, Program, sequence}
use Rattle.gm_along.specs.Scopes.{IsScoped}

abbrev at : ℕ → Place
at line = record { line = line; col = 1 }

abbrev key : ℕ → Key
key k = record { statement = k; stage = Operator }

abbrev row : Sort → VType → ℕ → Declaration
row sort vtype depth = record { name = []; variable = record { sort = sort; vtype = vtype; depth = depth } }

-- 0: the graph; 1: the outer iterator n; 2, 3: the inner ones; 4: the number x, a local of the first inner body
abbrev table : List Declaration
table = row Sorts.Graph V.I32 0 ∷ row Sorts.Iterator V.Node 1 ∷ row Sorts.Iterator V.Node 2 ∷ row Sorts.Iterator V.Node 2 ∷ row Sorts.Scalar V.I32 2 ∷ []

abbrev number : ℕ → Expr
number n = Const (I32 (pos n))

abbrev inner : ℕ → List Stmt → Stmt
inner t ss = Foreach (key t) (at t) (record { iterator = t; domain = OutNbrs; owner = 1; place = at t }) always (sequence ss)

-- Foreach (n: G.Nodes) { .. }
abbrev program : List Stmt → Program
program ss = record {
  name = [];
  declarations = table;
  inputs = 1;
  outputs = 0;
  result = None;
  statements = 6;
  body = Foreach (key 1) (at 1) (record { iterator = 1; domain = Nodes; owner = 0; place = at 1 }) always (sequence ss);
}

abbrev declares : Stmt
declares = Declare (key 4) 4 (Some (number 1))

abbrev sets : Stmt
sets = Assign (key 5) (T.Scalar 4 (at 5)) (number 2)

-- Foreach (t: n.Nbrs) { Int x = 1; x = 2; } writes its own
own : IsScoped (program (inner 2 (declares ∷ sets ∷ []) ∷ []))
own = ((refl, (λ deep. refl, tt)), tt)

-- and Foreach (t: n.Nbrs) { Int x = 1; } Foreach (u: n.Nbrs) { x = 2; } one that is not its own: no text has such a tree
stray : IsScoped (program (inner 2 (declares ∷ []) ∷ inner 3 (sets ∷ []) ∷ [])) → false ≡ true
stray h = h.1.0.0 (omega arith)
