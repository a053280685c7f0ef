-- What holds of a program once its loops are parted, so that its image can be made.
use Rattle.std.specs.Prelude.{◌≡◌, ◌<◌, ◌≤◌, ◌+◌, ℕ, false, List}
use Rattle.gm_value.specs.declared.values.Value.{Value}
use Rattle.gm_model.specs.Graphs.{NumberedGraph}
use Rattle.gm_ast.specs.declared.tree.Sort.TheVariants.{EdgeProperty}
use Rattle.gm_ast.specs.Names.{is}
use Rattle.gm_ast.specs.Procedures.{IsTyped}
use Rattle.gm_ast.specs.Program.{Program}
use Rattle.gm_canon.specs.Verdict.{StandsFor}
use Rattle.gm_semantics.specs.Statements.{variable_at}
use Rattle.gm_forms.specs.Meanings.{Fits}
use Rattle.gm_forms.specs.Ready.{Ready0, Ready4}
use Rattle.gm_typed_stores.specs.Laws.{IsWellTyped, FitsBelow}
use Rattle.gm_lowering_master.specs.Whole.{HasEdgeColumns}
use Rattle.gm_sound_lowering.specs.Asked.{HasNames}
use Rattle.gm_interface.specs.Tables.{HasTable, IsNamedText, IteratesNoParameter, HasParametersOf}
use Rattle.gm_compilable.specs.Parted.{with_levels, parted}

-- ---- texts

-- the program that a text stands for breaks no rule of types, and its inputs and outputs have names
pub record IsOfText (p : Program) : Type 0 where
  pub typed : IsTyped p
  pub named : IsNamedText p

abbrev pub AcceptedIsOfText : Type 0
AcceptedIsOfText = (text : List ℕ) (p : Program) → StandsFor text p → IsOfText p

-- no input or output iterates an inner loop of a program that breaks no rule of types, once it has plain loops and its searches are loops over levels
abbrev pub TypedIterateNoParameter : Type 0
TypedIterateNoParameter = (p : Program) → IsTyped p → IteratesNoParameter (with_levels p)

-- ---- tables

-- the table of a parted program is in order
abbrev pub PartedHasTable : Type 0
PartedHasTable = (p : Program) → IsTyped p → HasTable (parted p)

-- no output of a program is a property of edges
abbrev pub HasNoEdgeOutputs : Program → Type 0
HasNoEdgeOutputs p = (x : ℕ) → p.inputs ≤ x → x < p.inputs + p.outputs → is EdgeProperty (variable_at p.declarations x) ≡ false

abbrev pub PartedHasNoEdgeOutputs : Type 0
PartedHasNoEdgeOutputs = (p : Program) → IsTyped p → HasNoEdgeOutputs (parted p)

-- it has the program's name and result, and its inputs and outputs
abbrev pub PartedHasParameters : Type 0
PartedHasParameters = (p : Program) → IsTyped p → HasParametersOf p (parted p)

-- and their names are in order, where they are names
abbrev pub PartedHasNames : Type 0
PartedHasNames = (p : Program) → IsOfText p → HasNames (parted p)

-- ---- types

-- the program tells values alone once it is parted, whatever limit nodes have: its constants are no nodes but NIL, and it tells the graph in a loop alone that the graph iterates
abbrev pub PartedIsWellTyped : Type 0
PartedIsWellTyped = (limit : ℕ) (p : Program) → IsTyped p → Ready0 p → Ready4 (parted p) → IsWellTyped limit (parted p)

-- ---- arguments and graphs

-- what fits a program fits it once it is parted
abbrev pub PartedFits : Type 0
PartedFits = (limit : ℕ) (p : Program) (g : NumberedGraph) (args : List Value) → IsTyped p → FitsBelow limit p g args → FitsBelow limit (parted p) g args

-- and a graph with the columns that a program declares has those that it declares then
abbrev pub PartedHasColumns : Type 0
PartedHasColumns = (p : Program) (g : NumberedGraph) → IsTyped p → HasEdgeColumns p g → HasEdgeColumns (parted p) g

-- what fits a program below a limit of nodes fits it
abbrev pub BelowFits : Type 0
BelowFits = (limit : ℕ) (p : Program) (g : NumberedGraph) (args : List Value) → FitsBelow limit p g args → Fits p g args
