-- What is known of the image that is made of a program.
use Rattle.std.specs.Prelude.{◌≡◌, ◌<◌, ◌≤◌, ◌+◌, ℕ, true, false, List}
use Rattle.gm_value.specs.declared.values.Value.{Value}
use Rattle.gm_model.specs.Graphs.{NumberedGraph, node_count}
use Rattle.gm_ast.specs.declared.tree.Sort.TheVariants as Sorts
use Rattle.gm_ast.specs.Names.{is}
use Rattle.gm_ast.specs.Program as S
use Rattle.gm_depth.specs.Depths.{is_shallow}
use Rattle.gm_forms.specs.Sharing.{is_race_free}
use Rattle.gm_image.specs.Program.{Program}
use Rattle.gm_image.specs.Soundness.{is_sound}
use Rattle.gm_lowering.specs.Layouts.{layout}
use Rattle.gm_lowering.specs.Lowered.{lowered}
use Rattle.gm_lowering_master.specs.Follows.{is_followed}
use Rattle.gm_lowering_master.specs.Plain.{is_plain}
use Rattle.gm_lowering_master.specs.Whole.{HasInterface, HasEdgeColumns, has_result}
use Rattle.gm_machine.specs.Machine.{machine}
use Rattle.gm_semantics.specs.Outcomes.{mean}
use Rattle.gm_semantics.specs.Statements.{variable_at}
use Rattle.gm_sound_lowering.specs.Asked.{IsAskedProgram, HasNames}
use Rattle.gm_sound_lowering.specs.Entries.{has_few_entries}
use Rattle.gm_typed_stores.specs.Laws.{IsWellTyped, FitsBelow}

-- no output is a property of edges
abbrev pub HasHeldOutputs : S.Program → Type 0
HasHeldOutputs p = (x : ℕ) → p.inputs ≤ x → x < p.inputs + p.outputs → is Sorts.EdgeProperty (variable_at p.declarations x) ≡ false

-- an image is that of a program, where no output is a property of edges
abbrev pub IsItsImage : S.Program → Program → Type 0
IsItsImage p i = HasHeldOutputs p → i ≡ lowered p

-- the machine on an image has the outcome of a program of plain loops, on every graph with the declared columns, for all arguments that fit and every bound
abbrev pub HasItsOutcome : S.Program → Program → Type 0
HasItsOutcome p i =
    (g : NumberedGraph) (args : List Value) (bound : ℕ) → HasInterface p → IsWellTyped (node_count g) p → FitsBelow (node_count g) p g args → HasEdgeColumns p g
    → is_followed (layout p) (has_result p.result) p.body ≡ true → is_plain (layout p) p.body ≡ true
    → (machine i g args bound).outcome ≡ mean p g args bound

-- what is asked of a program so that its image is sound: what the rules of images ask, names, loops that share what ends with them alone, and no more levels and entries than terms may have
pub record CanBeSound (p : S.Program) : Type 0 where
  pub asked : IsAskedProgram p
  pub names : HasNames p
  pub race_free : is_race_free p ≡ true
  pub shallow : is_shallow p ≡ true
  pub few : has_few_entries p ≡ true

abbrev pub IsSoundWhereAsked : S.Program → Program → Type 0
IsSoundWhereAsked p i = CanBeSound p → is_sound i ≡ true
