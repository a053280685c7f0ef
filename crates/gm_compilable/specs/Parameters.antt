-- The inputs and outputs of an image, by the names and types of a program's declarations.
use Rattle.std.specs.Prelude.{◌≡◌, ℕ, List, map, filter, take, drop, option_map}
use Rattle.gm_value.specs.declared.values.VType.{VType}
use Rattle.gm_ast.specs.declared.tree.Declaration.{Declaration}
use Rattle.gm_ast.specs.declared.tree.Sort.{Sort}
use Rattle.gm_ast.specs.declared.tree.Sort.TheVariants.{Scalar, NodeProperty, EdgeProperty}
use Rattle.gm_ast.specs.Names.{is}
use Rattle.gm_ast.specs.Procedures.{IsTyped}
use Rattle.gm_ast.specs.Program as S
use Rattle.gm_image.specs.Program.{Program, Item}
use Rattle.gm_lowering.specs.Lowered.{lowered}
use Rattle.gm_machine.specs.Machine.{scalars, properties}
use Rattle.gm_compilable.specs.Parted.{parted}

-- a name with a type
abbrev pub Named : Type 0
Named = List ℕ × VType

abbrev pub named : List ℕ → VType → Named
named n t = (n, t)

-- the declarations of a sort among some, in order
abbrev pub named_of : Sort → List Declaration → List Named
named_of sort ds = map (λ d. named d.name d.variable.vtype) (filter (λ d. is sort d.variable) ds)

-- some inputs or outputs of an image
abbrev pub named_items : List Item → List Named
named_items items = map (λ i. named i.name i.vtype) items

-- the declarations of a program's inputs, and of its outputs
abbrev pub inputs_in : S.Program → List Declaration
inputs_in p = take p.inputs p.declarations

abbrev pub outputs_in : S.Program → List Declaration
outputs_in p = take p.outputs (drop p.inputs p.declarations)

-- an image has a program's name, its inputs and outputs with their names and types in order of declaration, its columns of edges, and the type of its result
pub record HasItemsOf (p : S.Program) (i : Program) : Type 0 where
  pub name : i.name ≡ p.name
  pub scalar_inputs : named_items (scalars i.inputs) ≡ named_of Scalar (inputs_in p)
  pub property_inputs : named_items (properties i.inputs) ≡ named_of NodeProperty (inputs_in p)
  pub columns : i.columns ≡ map (λ (n : Named). n.1) (named_of EdgeProperty (inputs_in p))
  pub scalar_outputs : named_items (scalars i.outputs) ≡ named_of Scalar (outputs_in p)
  pub property_outputs : named_items (properties i.outputs) ≡ named_of NodeProperty (outputs_in p)
  pub result : option_map (λ (r : VType × ℕ). r.0) i.result ≡ p.result

-- the image of a parted program has those of the program, where it breaks no rule of types
abbrev pub PartedImageHasItems : Type 0
PartedImageHasItems = (p : S.Program) → IsTyped p → HasItemsOf p (lowered (parted p))
