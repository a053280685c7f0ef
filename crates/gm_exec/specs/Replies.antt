-- What the run of an image over a graph writes: the road of an image.
use Rattle.std.specs.Prelude.{◌≡◌, ℕ, List}
use Rattle.gm_base.specs.declared.statuses.Status.{Status}
use Rattle.gm_base.specs.declared.statuses.Status.TheVariants.{BadInput}
use Rattle.gm_words.specs.declared.jobs.Options.{Options}
use Rattle.gm_image.specs.Program.{Program}
use Rattle.gm_input.specs.Outside.{Outside}
use Rattle.gm_observe.specs.declared.notes.Note.{Note}
use Rattle.gm_input.specs.Roads.{Road, AreTexts, IsReply}
use Rattle.gm_input.specs.Texts.{Says}
use Rattle.gm_exec.specs.declared.flaws.Flaw.{Flaw}
use Rattle.gm_exec.specs.Flaws.{HasFlaw, StandsFor, flaw_text}
use Rattle.gm_exec.specs.Runs.{Audience, AreToldOver}
use Rattle.gm_exec.specs.Answers.{IsTextAnswer}

-- the greatest number of bytes of an image's text that are read: one more than a text may have, so that a longer one is
-- seen
abbrev pub most_image : ℕ
most_image = 268435457

-- something is wrong with an image's text, and this is said
pub record SaysFlaw (whole text : List ℕ) (status : Status) : Type 0 where
  pub flaw : Flaw
  pub has : HasFlaw whole flaw
  pub says : Says text status (flaw_text flaw) BadInput

-- the road of an image, with the words for its arguments, how it is to be run, and those who may observe it
abbrev pub image_road : List (List ℕ) → Options → Audience → Road
image_road words options a = record {
  Code = Program;
  most = most_image;
  stands = λ whole p. StandsFor whole p;
  bad = λ whole text status. SaysFlaw whole text status;
  over = λ p graph text status. IsTextAnswer p words options a graph text status;
}

-- what is to be written for the run of an image over a graph, by their names
abbrev pub IsExecReply : List ℕ → List ℕ → List (List ℕ) → Options → Audience → Outside → Outside → List ℕ → Status → Type 0
IsExecReply image graph words options a before after text status = IsReply (image_road words options a) image graph before after text status

-- what observers hold, whatever came of it, also where memory ran out: what they held, or what they may hold of the image
-- under its name over the graph text under its name, which were both read
pub data AreTold (image graph : List ℕ) (words : List (List ℕ)) (options : Options) (b a : Outside) (before after : List (List Note)) : Type 0 where
  untold : after ≡ before → AreTold image graph words options b a before after
  both_read : (whole text : List ℕ) → AreTexts most_image image graph b a whole text → (p : Program) → StandsFor whole p
      → AreToldOver p words options text before after → AreTold image graph words options b a before after
