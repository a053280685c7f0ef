-- The image of a program: what `compile` writes, and what `run` writes with `--image`.
use Rattle.std.specs.Prelude.{◌≡◌, ℕ, true, false, List, Option, Some, None}
use Rattle.gm_base.specs.declared.statuses.Status.{Status}
use Rattle.gm_base.specs.declared.statuses.Status.TheVariants.{Done, Refused}
use Rattle.gm_ast.specs.Program.{Program}
use Rattle.gm_ast.specs.Tree.{program_of}
use Rattle.gm_canon.specs.Verdict.{StandsFor}
use Rattle.gm_image.specs.Views.{program}
use Rattle.gm_image.specs.Program as Image
use Rattle.gm_image.specs.Soundness.{first_broken}
use Rattle.gm_image_text.specs.ImageText.{IsTextOf}
use Rattle.gm_image_text.specs.Spelling.{image_text}
use Rattle.gm_words.specs.declared.jobs.Options.{Options}
use Rattle.gm_input.specs.Outside.{Outside, IsText}
use Rattle.gm_input.specs.Roads.{Road, IsReply, SaysUnread}
use Rattle.gm_input.specs.Texts.{Says}
use Rattle.gm_compile.specs.Compiled.{Represents, compiled, has_image}
use Rattle.gm_exec.specs.Runs.{Audience}
use Rattle.gm_run.specs.declared.compiling.Compiled.{Compiled}
use Rattle.gm_run.specs.Compiled.{HasRows, IsShownAnswer, RunsAs}
use Rattle.gm_driver.specs.declared.images.Runnable.{Runnable}
use Rattle.gm_driver.specs.declared.images.Runnable.TheVariants as runnable
use Rattle.gm_driver.specs.Fronts.{most_program}
use Rattle.gm_driver.specs.Runs.{SaysRefused}
use Rattle.gm_driver.specs.Texts.{no_image_text}

-- a program text stands for a program that has an image, which stands for the program
pub record HasImage (whole : List ℕ) (p : Program) : Type 0 where
  pub stands : StandsFor whole p
  pub has : has_image p ≡ true
  pub represents : Represents (compiled p) p

-- this was compiled of the program that a text stands for
pub record IsCompiledOf (whole : List ℕ) (c : Compiled) : Type 0 where
  pub source : Program
  pub has : HasImage whole source
  pub made : program c.image ≡ compiled source
  pub runs : RunsAs c source

-- a program text stands for a program of which no image is made yet
pub record HasNoImage (whole : List ℕ) : Type 0 where
  pub source : Program
  pub stands : StandsFor whole source
  pub none : has_image source ≡ false

-- what was compiled of the program of a text, or none, where none is made of it
abbrev pub IsCompiledOrNone : List ℕ → Option Compiled → Type 0
IsCompiledOrNone whole (Some c) = IsCompiledOf whole c
IsCompiledOrNone whole None = HasNoImage whole

-- what runs as a program: what was compiled of it, or the program itself
abbrev pub RunsProgram : Runnable → Program → Type 0
RunsProgram (runnable.Compiled c) p = RunsAs c p
RunsProgram (runnable.Source work) p = program_of work ≡ p

-- where it is a compiled one, its graph has as many columns of edges as its image declares
abbrev pub HasRowsOf : Runnable → Type 0
HasRowsOf (runnable.Compiled c) = HasRows c
HasRowsOf (runnable.Source work) = Unit {0}

-- what runs as the program that a text stands for
pub record IsRunnableOf (whole : List ℕ) (r : Runnable) : Type 0 where
  pub source : Program
  pub stands : StandsFor whole source
  pub runs : RunsProgram r source
  pub rows : HasRowsOf r

-- no image is made of the program that a text stands for, and this is said
pub record SaysNoImage (whole text : List ℕ) (status : Status) : Type 0 where
  pub none : HasNoImage whole
  pub says : Says text status no_image_text Refused

-- a program text breaks a rule, or no image is made of its program, and this is said
pub data SaysNoRun (whole text : List ℕ) (status : Status) : Type 0 where
  refused : SaysRefused whole text status → SaysNoRun whole text status
  no_image : SaysNoImage whole text status → SaysNoRun whole text status

-- ---- what `compile` writes

-- a text is what is written of an image: it is the image's text, and no line of it breaks a rule
pub record IsWrittenOf (i : Image.Program) (text : List ℕ) : Type 0 where
  pub text_of : text ≡ image_text i
  pub spelled : IsTextOf i text
  pub sound : first_broken i ≡ None

-- the answer for a program text: what is written of its program's image, or why there is none
pub data IsCompiled (whole text : List ℕ) (status : Status) : Type 0 where
  written : (p : Program) → HasImage whole p → IsWrittenOf (compiled p) text → status ≡ Done → IsCompiled whole text status
  unwritten : SaysNoRun whole text status → IsCompiled whole text status

-- what is to be written for the compilation of the program under a name: it could not be read, or it is compiled
pub data IsCompileReply (name : List ℕ) (before after : Outside) (text : List ℕ) (status : Status) : Type 0 where
  not_read : SaysUnread name before after text status → IsCompileReply name before after text status
  was_read : (whole : List ℕ) → IsText most_program name before after whole → IsCompiled whole text status → IsCompileReply name before after text status

-- ---- what `run` writes with `--image`

-- the road of a program whose image is shown: the text of the image stands before the listing of exactly its run
abbrev pub shown_road : List (List ℕ) → Options → Audience → Road
shown_road words options a = record {
  Code = Program;
  most = most_program;
  stands = λ whole p. HasImage whole p;
  bad = λ whole text status. SaysNoRun whole text status;
  over = λ p graph text status. IsShownAnswer (compiled p) p words options a graph text status;
}

-- what is to be written for the run of a program over a graph, by their names, with the program's image before it
abbrev pub IsShownReply : List ℕ → List ℕ → List (List ℕ) → Options → Audience → Outside → Outside → List ℕ → Status → Type 0
IsShownReply prog graph words options a before after text status = IsReply (shown_road words options a) prog graph before after text status
