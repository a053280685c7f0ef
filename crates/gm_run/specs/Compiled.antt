-- Programs that are compiled: when an image runs as its program, and what is said over a graph text where the image is shown.
use Rattle.std.specs.Prelude.{◌≡◌, ℕ, Bool, List, ◌++◌, length, Ok}
use Rattle.gm_base.specs.declared.statuses.Status.{Status}
use Rattle.gm_value.specs.declared.values.Value.{Value}
use Rattle.gm_model.specs.declared.outcomes.RunEnd.{RunEnd}
use Rattle.gm_model.specs.Graphs.{IsGraph, NumberedGraph}
use Rattle.gm_ast.specs.declared.tree.Declaration.{Declaration}
use Rattle.gm_ast.specs.declared.tree.Sort.TheVariants.{NodeProperty, EdgeProperty}
use Rattle.gm_ast.specs.Program.{Program}
use Rattle.gm_semantics.specs.Outcomes.{mean}
use Rattle.gm_image.specs.Program as Image
use Rattle.gm_image.specs.Views.{program}
use Rattle.gm_image_text.specs.Spelling.{image_text}
use Rattle.gm_machine.specs.Machine.{machine}
use Rattle.gm_machine.specs.Notes.{noted}
use Rattle.gm_listing.specs.declared.outputs.Ending.TheVariants.{Counts}
use Rattle.gm_listing.specs.Listing.{status_of}
use Rattle.gm_words.specs.declared.jobs.Format.{Format}
use Rattle.gm_words.specs.declared.jobs.Options.{Options}
use Rattle.gm_words.specs.Arguments.{values_bound}
use Rattle.gm_input.specs.Answers as input
use Rattle.gm_input.specs.Answers.{IsGraphOf, format_of}
use Rattle.gm_input.specs.Texts.{Says}
use Rattle.gm_exec.specs.Runs.{Audience, held_after, reports_after}
use Rattle.gm_run.specs.declared.compiling.Compiled.{Compiled}
use Rattle.gm_source_runs.specs.Answers.{lines_of}
use Rattle.gm_source_runs.specs.Programs.{input_declarations, inputs_of, output_declarations, shape_of, types_of}

-- a graph with the columns of a compiled program has as many columns of edges as its image declares
abbrev pub HasRows : Compiled → Type 0
HasRows c = length c.image.columns ≡ length c.interface.shape.edges

-- what is compiled runs as a program: it asks for the same arguments and for graphs with the same columns, and has the same outputs; and over each graph
-- that a text stands for, with values that words give and for every bound on turns, the machine comes to the outcome that the program means
pub record RunsAs (c : Compiled) (p : Program) : Type 0 where
  pub nodes : c.interface.shape.nodes ≡ types_of NodeProperty (input_declarations p)
  pub edges : c.interface.shape.edges ≡ types_of EdgeProperty (input_declarations p)
  pub inputs : c.interface.inputs.items ≡ inputs_of p
  pub outputs : c.interface.outputs.items ≡ output_declarations p
  pub rows : HasRows c
  pub outcome : (f : Format) (text : List ℕ) (g : NumberedGraph) → IsGraph g → IsGraphOf (format_of f) (shape_of p) text g
      → (words : List (List ℕ)) (args : List Value) → values_bound (inputs_of p) words g.numbers ≡ Ok args
      → (turns : ℕ) → (machine (program c.image) g args turns).outcome ≡ mean p g args turns

-- ---- where the image is shown

-- the text of an image, and the listing of how its run over a graph ended, where these are the declarations of the outputs
abbrev pub shown_text : Image.Program → List Declaration → NumberedGraph → RunEnd → List ℕ
shown_text i outputs g end = image_text i ++ lines_of outputs g (Counts end.supersteps end.messages) end.outcome

-- the run of an image that is shown over a graph, with these arguments: the image's text, the listing of what the machine does with its supersteps and
-- messages, and the reports of those who watch, who are told of each superstep
pub record IsShown (i : Image.Program) (outputs : List Declaration) (turns : ℕ) (watched : Bool) (a : Audience) (g : NumberedGraph) (args : List Value) (text : List ℕ) (status : Status) : Type 0 where
  pub told : a.after ≡ held_after watched (noted i g args turns) a.before
  pub says : Says text status (shown_text i outputs g (machine i g args turns) ++ reports_after watched a.ways a.after) (status_of (machine i g args turns).outcome)

-- such a run of a program
abbrev pub RanShown : Image.Program → Program → ℕ → Bool → Audience → NumberedGraph → List Value → List ℕ → Status → Type 0
RanShown i p turns watched a g args text status = IsShown i (output_declarations p) turns watched a g args text status

-- the answer of a program by its image, which is shown, over a graph text, with the words for its arguments
abbrev pub IsShownAnswer : Image.Program → Program → List (List ℕ) → Options → Audience → List ℕ → List ℕ → Status → Type 0
IsShownAnswer i p words options a graph text status =
    input.IsTextAnswer (format_of options.format) (shape_of p) (inputs_of p) words (RanShown i p options.turns options.observe a) graph text status
