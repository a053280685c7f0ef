-- A program that was read by hand: Procedure f(G: Graph, w: E_P<Bool>, k: Int, p: N_P<Int>, r: Node; q: N_P<Bool>, s: Long) { }
use Rattle.std.specs.Prelude.{ℕ, List, [], ◌∷◌, codes, Some, None}
use Rattle.gm_value.specs.declared.values.VType.{VType}
use Rattle.gm_value.specs.declared.values.VType.TheVariants.{I32, I64, Flag, Node}
use Rattle.gm_ast.specs.declared.tree.Declaration.{Declaration}
use Rattle.gm_ast.specs.declared.tree.Sort.{Sort}
use Rattle.gm_ast.specs.declared.tree.Sort.TheVariants.{Graph, Scalar, NodeProperty, EdgeProperty}
use Rattle.gm_base.specs.declared.places.Place.{Place}
use Rattle.gm_ast.specs.declared.surface.ReductionWord.TheVariants.{Count}
use Rattle.gm_ast.specs.declared.tree.Direction.{Direction}
use Rattle.gm_ast.specs.declared.tree.Domain.{Domain}
use Rattle.gm_ast.specs.declared.tree.Key.{Key}
use Rattle.gm_ast.specs.declared.tree.Stage.TheVariants.{Operator}
use Rattle.gm_ast.specs.Program.{Program, Expr, Skip, Return, Degree, Folded, always}

abbrev pub declared : List ℕ → Sort → VType → Declaration
declared name sort vtype = record { name = name; variable = record { sort = sort; vtype = vtype; depth = 0 } }

-- the same procedure with other counts of inputs and of outputs
abbrev pub small : ℕ → ℕ → Program
small inputs outputs = record {
  name = codes "f";
  declarations =
      declared (codes "G") Graph Node
      ∷ declared (codes "w") EdgeProperty Flag
      ∷ declared (codes "k") Scalar I32
      ∷ declared (codes "p") NodeProperty I32
      ∷ declared (codes "r") Scalar Node
      ∷ declared (codes "q") NodeProperty Flag
      ∷ declared (codes "s") Scalar I64
      ∷ [];
  inputs = inputs;
  outputs = outputs;
  result = None;
  statements = 0;
  body = Skip;
}

-- it returns a value
abbrev here : Place
here = record { line = 1; col = 1 }

abbrev key : Key
key = record { statement = 0; stage = Operator }

abbrev pub returning : Expr → Program
returning e = record (small 5 2) { body = Return key here (Some e) }

-- a degree of the node r, and how many nodes there are in a range of it
abbrev pub degree : Direction → Expr
degree d = Degree d 4 here

abbrev pub count_over : Domain → Expr
count_over domain =
    Folded
    (record { word = Count; vtype = I32; filter = key; body = key; total = record { key = key; place = here; shown = here } })
    (record { iterator = 7; domain = domain; owner = 4; place = here }) always always
