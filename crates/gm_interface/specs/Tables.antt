-- What it is that a program's table of declarations is in order.
use Rattle.std.specs.Prelude.{◌≡◌, ◌<◌, ◌≤◌, ◌+◌, ◌||◌, ℕ, true, false}
use Rattle.std.specs.Str.{bytes_eq}
use Rattle.gm_value.specs.declared.values.VType.TheVariants.{Node}
use Rattle.gm_value.specs.Operations.{same_type}
use Rattle.gm_ast.specs.declared.tree.Sort.TheVariants.{NodeProperty, EdgeProperty}
use Rattle.gm_ast.specs.Names.{is}
use Rattle.gm_ast.specs.Program.{Program}
use Rattle.gm_ast.specs.Ways.{is_in}
use Rattle.gm_forms.specs.Typing.{type_at}
use Rattle.gm_semantics.specs.Statements.{variable_at}
use Rattle.gm_parting.specs.Iterators.{all_inner_iterators}
use Rattle.gm_image.specs.Names.{is_name}
use Rattle.gm_lowering_master.specs.Whole.{HasInterface}
use Rattle.gm_sound_lowering.specs.Asked.{NodesAreNodes, name_at}

-- iterators and graphs are nodes; inputs and outputs are declared, outside of loops, and inputs are no iterators; and properties of edges are inputs
pub record HasTable (p : Program) : Type 0 where
  pub nodes : NodesAreNodes p.declarations
  pub interface : HasInterface p

-- no input or output iterates an inner loop
abbrev pub IteratesNoParameter : Program → Type 0
IteratesNoParameter p = (x : ℕ) → x < p.inputs + p.outputs → is_in (all_inner_iterators p.body) x ≡ false

-- the inputs have different names, and so have the outputs; and inputs of nodes and edges are no nodes
pub record HasNamesApart (p : Program) : Type 0 where
  pub inputs_differ : (x y : ℕ) → x < y → y < p.inputs → bytes_eq (name_at p.declarations x) (name_at p.declarations y) ≡ false
  pub outputs_differ : (x y : ℕ) → p.inputs ≤ x → x < y → y < p.inputs + p.outputs → bytes_eq (name_at p.declarations x) (name_at p.declarations y) ≡ false
  pub no_nodes : (x : ℕ) → x < p.inputs → is NodeProperty (variable_at p.declarations x) || is EdgeProperty (variable_at p.declarations x) ≡ true → same_type (type_at p.declarations x) Node ≡ false

-- the procedure, its inputs and its outputs have names
pub record IsNamedText (p : Program) : Type 0 where
  pub name : is_name p.name ≡ true
  pub names : (x : ℕ) → x < p.inputs + p.outputs → is_name (name_at p.declarations x) ≡ true

-- a variable of two programs has the same name, sort and type
pub record IsLike (p q : Program) (x : ℕ) : Type 0 where
  pub name : name_at q.declarations x ≡ name_at p.declarations x
  pub sort : (variable_at q.declarations x).sort ≡ (variable_at p.declarations x).sort
  pub vtype : (variable_at q.declarations x).vtype ≡ (variable_at p.declarations x).vtype

-- a program has another's name and result, and its inputs and outputs with their names, sorts and types
pub record HasParametersOf (p q : Program) : Type 0 where
  pub name : q.name ≡ p.name
  pub inputs : q.inputs ≡ p.inputs
  pub outputs : q.outputs ≡ p.outputs
  pub result : q.result ≡ p.result
  pub like : (x : ℕ) → x < p.inputs + p.outputs → IsLike p q x
