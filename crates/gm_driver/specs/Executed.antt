-- The run of an image that `compile` wrote: what `exec` writes of it, and what `run` writes of its program.
use Rattle.std.specs.Prelude.{◌≡◌, ◌≤◌, ℕ, Bool, List, ◌++◌, length}
use Rattle.gm_base.specs.declared.statuses.Status.{Status}
use Rattle.gm_base.specs.declared.statuses.Status.TheVariants.{Done}
use Rattle.gm_value.specs.declared.values.Value.{Value}
use Rattle.gm_model.specs.Graphs.{NumberedGraph}
use Rattle.gm_ast.specs.Program.{Program}
use Rattle.gm_canon.specs.Verdict.{StandsFor}
use Rattle.gm_semantics.specs.Outcomes.{mean}
use Rattle.gm_image.specs.Program as Image
use Rattle.gm_image_text.specs.ImageText.{most_bytes}
use Rattle.gm_machine.specs.Machine.{machine}
use Rattle.gm_machine.specs.Notes.{noted}
use Rattle.gm_listing.specs.declared.outputs.Ending.TheVariants.{Counts}
use Rattle.gm_listing.specs.Listing.{status_of}
use Rattle.gm_words.specs.declared.jobs.Options.{Options}
use Rattle.gm_input.specs.Answers as input
use Rattle.gm_input.specs.Answers.{format_of}
use Rattle.gm_input.specs.Texts.{Says}
use Rattle.gm_compile.specs.Compiled.{compiled}
use Rattle.gm_exec.specs.Answers as exec
use Rattle.gm_exec.specs.Flaws as flaws
use Rattle.gm_exec.specs.Runs.{Audience, held_after, reports_after}
use Rattle.gm_source_runs.specs.Answers.{lines_of}
use Rattle.gm_source_runs.specs.Programs.{inputs_of, output_declarations, shape_of}
use Rattle.gm_driver.specs.Images.{IsCompiled}

-- the run of a program by an image over a graph, with these arguments: the listing of what the program means, whose last line counts the
-- supersteps and messages of the image's run besides the turns, and the reports of those who watch that run
pub record RanCounted (i : Image.Program) (p : Program) (turns : ℕ) (watched : Bool) (a : Audience) (g : NumberedGraph) (args : List Value) (text : List ℕ) (status : Status) : Type 0 where
  pub told : a.after ≡ held_after watched (noted i g args turns) a.before
  pub says : Says text status
      (lines_of (output_declarations p) g (Counts (machine i g args turns).supersteps (machine i g args turns).messages) (mean p g args turns) ++ reports_after watched a.ways a.after)
      (status_of (mean p g args turns))

-- with the same words and options, `exec` answers for an image over each graph text what `run` answers for a program, but for the last line of a run to its
-- end and the reports: the same fault of the text, the same faulty argument, or the listing of the outcome that the program means
abbrev pub RunsAlike : Image.Program → Program → Type 0
RunsAlike i p = (words : List (List ℕ)) (options : Options) (a : Audience) (graph text : List ℕ) (status : Status) → exec.IsTextAnswer i words options a graph text status
    → input.IsTextAnswer (format_of options.format) (shape_of p) (inputs_of p) words (RanCounted i p options.turns options.observe a) graph text status

-- a text that was written of a program text's image runs as the program: `exec` reads it as this image, which is sound, and as no other, and answers for it
-- what `run` answers for the program
pub record IsExecutedAs (whole image : List ℕ) : Type 0 where
  pub source : Program
  pub stands : StandsFor whole source
  pub read : flaws.StandsFor image (compiled source)
  pub alone : (i : Image.Program) → flaws.StandsFor image i → i ≡ compiled source
  pub alike : RunsAlike (compiled source) source

-- what `compile` writes of a program text's image runs as the program, where it is no longer than the text of an image may be
abbrev pub CompiledIsExecuted : Type 0
CompiledIsExecuted = (whole image : List ℕ) → IsCompiled whole image Done → length image ≤ most_bytes → IsExecutedAs whole image
