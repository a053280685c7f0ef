-- The jobs, from what a parse found.
use Rattle.std.specs.Prelude.{◌≡◌, ◌⊎◌, ⊤, Bool, false, List, Option, Some, None, codes, option_map, unwrap_or, []}
use Rattle.std.specs.Str.{bytes_eq}
use Rattle.clap.specs.Words.{first_value, matched_of, raw_values}
use Rattle.clap.specs.Matches.{one_text}
use Rattle.clap.specs.declared.parser.matches.Found.{Found}
use Rattle.gm_words.specs.declared.jobs.Job.{Job}
use Rattle.gm_words.specs.declared.jobs.Job.TheVariants as job
use Rattle.gm_words.specs.declared.jobs.Options.{Options}
use Rattle.gm_words.specs.declared.verbs.Verb.{Verb}
use Rattle.gm_words.specs.declared.verbs.Verb.TheVariants.{Run, Check, Compile, Exec, Demo}
use Rattle.gm_words.specs.Words.{Text}
use Rattle.gm_words.specs.Jobs.{demo_job, exec_job, run_job, one_word, options_by}

-- the options that a parse found
abbrev pub options_found : Bool → Found → Option Options
options_found observe f = options_by observe (first_value f (codes "workers")) (first_value f (codes "partition")) (first_value f (codes "turns")) (first_value f (codes "format"))

-- the positionals that a parse found
abbrev pub words_found : Found → List Text
words_found f = unwrap_or (option_map raw_values (matched_of f (codes "WORD"))) []

abbrev pub is_true : Option Text → Bool
is_true None = false
is_true (Some text) = bytes_eq text (codes "true")

-- whether an option without a value was used
abbrev pub flag_found : Text → Found → Bool
flag_found name f = is_true (one_text f name)

-- a parse tells whether an option without a value was used
abbrev pub TellsFlag : Text → Found → Type 0
TellsFlag name f = (one_text f name ≡ Some (codes "true")) ⊎ (one_text f name ≡ Some (codes "false"))

abbrev pub TellsFlags : Verb → Found → Type 0
TellsFlags Run f = TellsFlag (codes "image") f × TellsFlag (codes "observe") f
TellsFlags Exec f = TellsFlag (codes "observe") f
TellsFlags _ f = ⊤

-- the job of a command, by what a parse found
abbrev pub job_found : Verb → Found → Option Job
job_found Run f = run_job (flag_found (codes "image") f) (flag_found (codes "observe") f) (options_found (flag_found (codes "observe") f) f) (words_found f)
job_found Check f = option_map job.Check (one_word (words_found f))
job_found Compile f = option_map job.Compile (one_word (words_found f))
job_found Exec f = exec_job (options_found (flag_found (codes "observe") f) f) (words_found f)
job_found Demo f = demo_job (options_found false f) (words_found f)
