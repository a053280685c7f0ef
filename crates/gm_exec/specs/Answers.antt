-- What the run of a sound image over a graph text answers: a text and a status.
use Rattle.std.specs.Prelude.{ℕ, List}
use Rattle.gm_base.specs.declared.statuses.Status.{Status}
use Rattle.gm_image.specs.Program.{Program}
use Rattle.gm_words.specs.declared.jobs.Options.{Options}
use Rattle.gm_input.specs.Answers as input
use Rattle.gm_input.specs.Answers.{format_of}
use Rattle.gm_exec.specs.Programs.{shape_of, inputs_of}
use Rattle.gm_exec.specs.Runs.{Audience, Ran}

-- the answer of an image over a graph text, with the words for its arguments; the options give the format of that text
-- and how the image is to be run
abbrev pub IsTextAnswer : Program → List (List ℕ) → Options → Audience → List ℕ → List ℕ → Status → Type 0
IsTextAnswer p words options a graph text status =
    input.IsTextAnswer (format_of options.format) (shape_of p) (inputs_of p) words (Ran p options.turns options.observe a) graph text status
