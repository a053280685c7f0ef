-- A group assignment that tells the graph, which stands for the node: rows of the laws.
use Rattle.std.specs.Prelude.{◌≡◌, ℕ, true, None, List, [], ◌∷◌, pos, codes, refl}
use Rattle.gm_base.specs.declared.places.Place.{Place}
use Rattle.gm_value.specs.declared.operations.Op2.TheVariants.{Eq}
use Rattle.gm_value.specs.declared.values.VType.{VType}
use Rattle.gm_value.specs.declared.values.VType.TheVariants as V
use Rattle.gm_value.specs.declared.values.Value.TheVariants.{I32}
use Rattle.gm_ast.specs.declared.tree.Declaration.{Declaration}
use Rattle.gm_ast.specs.declared.tree.Key.{Key}
use Rattle.gm_ast.specs.declared.tree.Sort.{Sort}
use Rattle.gm_ast.specs.declared.tree.Sort.TheVariants as Sorts
use Rattle.gm_ast.specs.declared.tree.Stage.TheVariants.{Operator}
use Rattle.gm_ast.specs.Program.{Const, Var, Binary, Choose, Group, Program}
use Rattle.gm_typed_stores.specs.Tells.{tells_values}
use Rattle.gm_lowering.specs.Lowered.{lowered}
use Rattle.gm_machine.specs.Machine.{scalars, properties}
use Rattle.gm_sound_lowering.specs.Ready.{is_lowerable}
use Rattle.gm_compilable.specs.Kept.{keeps_numbers}
use Rattle.gm_compilable.specs.Parameters.{named, named_items}
use Rattle.gm_compilable.specs.Parted.{parted}

abbrev at : Place
at = record { line = 1; col = 1 }

abbrev key : Key
key = record { statement = 1; stage = Operator }

abbrev declared : List ℕ → Sort → VType → Declaration
declared name sort t = record { name = name; variable = record { sort = sort; vtype = t; depth = 0 } }

-- Procedure mark(G: Graph, r: Node(G); p: N_P<Int>(G)) { G.p = (G == r) ? 1 : 0 }
abbrev marking : Program
marking = record {
  name = codes "mark";
  declarations = declared (codes "G") Sorts.Graph V.Node ∷ declared (codes "r") Sorts.Scalar V.Node ∷ declared (codes "p") Sorts.NodeProperty V.I32 ∷ [];
  inputs = 2;
  outputs = 1;
  result = None;
  statements = 1;
  body = Group key at 0 2 (Choose (Binary Eq at (Var 0 at) (Var 1 at)) (Const (I32 (pos 1))) (Const (I32 (pos 0))));
}

-- it tells values alone once it is parted, its constants may stand in an image, and it keeps nothing at once
marking_tells : tells_values 0 (parted marking) ≡ true
marking_tells = refl

marking_lowerable : is_lowerable (parted marking) ≡ true
marking_lowerable = refl

marking_keeps : keeps_numbers (parted marking) ≡ true
marking_keeps = refl

-- its image has one scalar input and one output, behind the variables that passes add
marking_inputs : named_items (scalars (lowered (parted marking)).inputs) ≡ named (codes "r") V.Node ∷ []
marking_inputs = refl

marking_outputs : named_items (properties (lowered (parted marking)).outputs) ≡ named (codes "p") V.I32 ∷ []
marking_outputs = refl
