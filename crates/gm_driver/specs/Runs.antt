-- What `run` writes: the road of a program.
use Rattle.std.specs.Prelude.{ℕ, List}
use Rattle.gm_base.specs.declared.rules.Refusal.{Refusal}
use Rattle.gm_base.specs.declared.statuses.Status.{Status}
use Rattle.gm_base.specs.declared.statuses.Status.TheVariants.{Refused}
use Rattle.gm_words.specs.declared.jobs.Options.{Options}
use Rattle.gm_ast.specs.Program.{Program}
use Rattle.gm_canon.specs.Verdict.{Breaks, StandsFor}
use Rattle.gm_input.specs.Outside.{Outside}
use Rattle.gm_input.specs.Roads.{Road, IsReply}
use Rattle.gm_input.specs.Texts.{Says}
use Rattle.gm_source_runs.specs.Answers.{IsTextAnswer}
use Rattle.gm_driver.specs.Fronts.{most_program}
use Rattle.gm_driver.specs.Texts.{refused_text}

-- a program text breaks a rule, and this is said
pub record SaysRefused (program text : List ℕ) (status : Status) : Type 0 where
  pub refusal : Refusal
  pub breaks : Breaks program refusal
  pub says : Says text status (refused_text refusal) Refused

-- the road of a program, with the words for its arguments and how it is to be run
abbrev pub program_road : List (List ℕ) → Options → Road
program_road words options = record {
  Code = Program;
  most = most_program;
  stands = λ whole p. StandsFor whole p;
  bad = λ whole text status. SaysRefused whole text status;
  over = λ p graph text status. IsTextAnswer p words options graph text status;
}

-- what is to be written for the run of a program over a graph, by their names
abbrev pub IsRunReply : List ℕ → List ℕ → List (List ℕ) → Options → Outside → Outside → List ℕ → Status → Type 0
IsRunReply prog graph words options before after text status = IsReply (program_road words options) prog graph before after text status
