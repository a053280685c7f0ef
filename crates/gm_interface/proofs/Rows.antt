-- A program with a search and a property of edges: the pass of searches declares a copy of the property, which is one of nodes, so that columns are inputs.
use Rattle.std.specs.Prelude.{◌≡◌, ℕ, true, None, List, [], ◌∷◌, length, codes, refl}
use Rattle.gm_base.specs.declared.places.Place.{Place}
use Rattle.gm_value.specs.declared.values.VType.TheVariants as V
use Rattle.gm_ast.specs.declared.tree.Declaration.{Declaration}
use Rattle.gm_ast.specs.declared.tree.Key.{Key}
use Rattle.gm_ast.specs.declared.tree.Sort.{Sort}
use Rattle.gm_ast.specs.declared.tree.Sort.TheVariants as Sorts
use Rattle.gm_ast.specs.declared.tree.Stage.TheVariants.{Operator}
use Rattle.gm_ast.specs.Names.{is}
use Rattle.gm_ast.specs.Program.{Skip, always, InBfs, Program}
use Rattle.gm_semantics.specs.Statements.{variable_at}
use Rattle.gm_bfs.specs.Levelled.{levelled}
use Rattle.gm_lowering.specs.Lowered.{lowered}

abbrev at : Place
at = record { line = 1; col = 1 }

abbrev key : Key
key = record { statement = 1; stage = Operator }

abbrev declared : List ℕ → Sort → ℕ → Declaration
declared name sort depth = record { name = name; variable = record { sort = sort; vtype = V.Node; depth = depth } }

-- Procedure levels(G: Graph, r: Node(G), w: E_P<Int>(G)) { InBFS (v: G.Nodes From r) { } }
abbrev searching : Program
searching = record {
  name = codes "levels";
  declarations =
      declared (codes "G") Sorts.Graph 0
      ∷ declared (codes "r") Sorts.Scalar 0
      ∷ record { name = codes "w"; variable = record { sort = Sorts.EdgeProperty; vtype = V.I32; depth = 0 } }
      ∷ declared (codes "v") Sorts.Iterator 1
      ∷ [];
  inputs = 3;
  outputs = 0;
  result = None;
  statements = 2;
  body = InBfs key at (record { iterator = 3; graph = 0; root = 1; place = at }) always Skip;
}

-- the ten fresh variables stand behind the four declared, and then a copy of each of these: that of w is 16
copied_property : is Sorts.NodeProperty (variable_at (levelled searching).declarations 16) ≡ true
copied_property = refl

-- so the image has one column, and one input of edges
columns_before : length (lowered searching).columns ≡ 1
columns_before = refl

columns_after : length (lowered (levelled searching)).columns ≡ 1
columns_after = refl

inputs_after : (levelled searching).inputs ≡ 3
inputs_after = refl
