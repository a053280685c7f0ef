-- The job that the words of a command line ask for.
use Rattle.std.specs.Prelude.{ℕ, ◌≤◌, IsTrue, ⊤, ◌&&◌, Bool, true, false, not, List, [], ◌∷◌, length, drop, take, Option, Some, None, if◌then◌else◌, nat_le, codes, find, option_map, option_and_then}
use Rattle.std.specs.List.{list_all, list_any}
use Rattle.std.specs.Char.{is_ascii_digit}
use Rattle.std.specs.Str.{bytes_eq}
use Rattle.std.specs.Str.Parse.{digits_value}
use Rattle.gm_partition.specs.declared.Owner.{Owner}
use Rattle.gm_partition.specs.declared.Owner.TheVariants.{Mod, Block, Spread}
use Rattle.gm_words.specs.declared.jobs.Format.{Format}
use Rattle.gm_words.specs.declared.jobs.Format.TheVariants.{Edges, Mtx}
use Rattle.gm_words.specs.declared.jobs.Job.{Job}
use Rattle.gm_words.specs.declared.jobs.Job.TheVariants as job
use Rattle.gm_words.specs.declared.jobs.Options.{Options}
use Rattle.gm_words.specs.declared.verbs.Verb.{Verb}
use Rattle.gm_words.specs.declared.verbs.Verb.TheVariants.{Run, Check, Compile, Exec, Demo}
use Rattle.gm_words.specs.Words.{Text, Known, Given, given, is_equals, is_used}

-- ---- the values of options

-- one to nineteen decimal digits
abbrev pub is_number : Text → Bool
is_number text = nat_le 1 (length text) && (nat_le (length text) 19 && list_all is_ascii_digit text)

-- the number that a text writes, where it lies between these bounds
abbrev pub number_from : ℕ → ℕ → Text → Option ℕ
number_from least most text =
    if is_number text && (nat_le least (digits_value 10 text) && nat_le (digits_value 10 text) most)
    then Some (digits_value 10 text) else None

-- a number of workers: 1 to 64
abbrev pub workers_of_text : Text → Option ℕ
workers_of_text = number_from 1 64

-- a number of turns: 0 to 9,223,372,036,854,775,807
abbrev pub turns_of_text : Text → Option ℕ
turns_of_text = number_from 0 9223372036854775807

-- how nodes are dealt out: `mod`, `block`, or `spread:S` with S from 0 to 4,294,967,295
abbrev pub owner_of_text : Text → Option Owner
owner_of_text text =
    if bytes_eq text (codes "mod") then Some Mod
    else (if bytes_eq text (codes "block") then Some Block
    else (if bytes_eq (take 7 text) (codes "spread:") then option_map Spread (number_from 0 4294967295 (drop 7 text))
    else None))

-- what a graph file holds: an edge list, or a Matrix Market text
abbrev pub format_of_text : Text → Option Format
format_of_text text =
    if bytes_eq text (codes "edges") then Some Edges
    else (if bytes_eq text (codes "mtx") then Some Mtx
    else None)

-- the value of an option, which the text gives, or this one where the option is not used
abbrev pub value_or : {A : Type 0} → A → (Text → Option A) → Option Text → Option A
value_or usual read None = Some usual
value_or usual read (Some text) = read text

-- the text that an option has for its value
abbrev pub text_of : Text → Given → Option Text
text_of name g = option_map (λ o. o.1) (find (λ o. bytes_eq o.0 name) g.options)

-- all options, where each has a right value
abbrev pub options_with : Bool → Option ℕ → Option Owner → Option ℕ → Option Format → Option Options
options_with observe (Some workers) (Some owner) (Some turns) (Some format) =
    Some (record { workers = workers; owner = owner; turns = turns; observe = observe; format = format })
options_with observe _ _ _ _ = None

-- the options by their texts: 4 workers, `mod`, 1,000,000 turns and an edge list where nothing else is said
abbrev pub options_by : Bool → Option Text → Option Text → Option Text → Option Text → Option Options
options_by observe workers partition turns format =
    options_with observe (value_or 4 workers_of_text workers) (value_or Mod owner_of_text partition) (value_or 1000000 turns_of_text turns) (value_or Edges format_of_text format)

-- the options of a job; `observe` says whether it is observed
abbrev pub options_of : Bool → Given → Option Options
options_of observe g = options_by observe (text_of (codes "workers") g) (text_of (codes "partition") g) (text_of (codes "turns") g) (text_of (codes "format") g)

-- ---- the options of each command

abbrev pub workers_option : Known
workers_option = record { name = codes "workers"; has_value = true }

abbrev pub partition_option : Known
partition_option = record { name = codes "partition"; has_value = true }

abbrev pub turns_option : Known
turns_option = record { name = codes "turns"; has_value = true }

abbrev pub format_option : Known
format_option = record { name = codes "format"; has_value = true }

abbrev pub observe_option : Known
observe_option = record { name = codes "observe"; has_value = false }

abbrev pub image_option : Known
image_option = record { name = codes "image"; has_value = false }

abbrev pub known_options : Verb → List Known
known_options Run = workers_option ∷ partition_option ∷ turns_option ∷ format_option ∷ observe_option ∷ image_option ∷ []
known_options Check = []
known_options Compile = []
known_options Exec = workers_option ∷ partition_option ∷ turns_option ∷ format_option ∷ observe_option ∷ []
known_options Demo = workers_option ∷ partition_option ∷ []

-- ---- the positionals of each command

-- a `=` stands after at least one byte
abbrev pub is_assignment : Text → Bool
is_assignment word = list_any is_equals (drop 1 word)

-- exactly one word
abbrev pub one_word : List Text → Option Text
one_word (word ∷ []) = Some word
one_word _ = None

-- two names of files, and then only words that assign
abbrev pub two_words : List Text → Option (Text × Text × List Text)
two_words (first ∷ second ∷ args) = if list_all is_assignment args then Some (first, second, args) else None
two_words _ = None

-- ---- jobs

abbrev pub verb_of : Text → Option Verb
verb_of word =
    if bytes_eq word (codes "run") then Some Run
    else (if bytes_eq word (codes "check") then Some Check
    else (if bytes_eq word (codes "compile") then Some Compile
    else (if bytes_eq word (codes "exec") then Some Exec
    else (if bytes_eq word (codes "demo") then Some Demo
    else None))))

-- the job of `run`, by whether it shows its image and is observed, its options and its positionals; it is observed only with its image
abbrev pub run_job : Bool → Bool → Option Options → List Text → Option Job
run_job image observe options words = if observe && not image then None
    else option_and_then (λ o. option_map (λ w. job.Run w.0 w.1 w.2 o image) (two_words words)) options

abbrev pub exec_job : Option Options → List Text → Option Job
exec_job options words = option_and_then (λ o. option_map (λ w. job.Exec w.0 w.1 w.2 o) (two_words words)) options

-- the job of `demo`, of which the one word is a number from 1 to 1,000,000
abbrev pub demo_job : Option Options → List Text → Option Job
demo_job options words = option_and_then (λ o. option_map (λ n. job.Demo n o) (option_and_then (number_from 1 1000000) (one_word words))) options

-- the job of a command, by the options that are used and the positionals
abbrev pub job_given : Verb → Given → Option Job
job_given Run g = run_job (is_used (codes "image") g) (is_used (codes "observe") g) (options_of (is_used (codes "observe") g) g) g.positionals
job_given Check g = option_map job.Check (one_word g.positionals)
job_given Compile g = option_map job.Compile (one_word g.positionals)
job_given Exec g = exec_job (options_of (is_used (codes "observe") g) g) g.positionals
job_given Demo g = demo_job (options_of false g) g.positionals

-- the job of a command, by the words after it
abbrev pub job_after : Verb → List Text → Option Job
job_after verb words = option_and_then (job_given verb) (given (known_options verb) words)

-- the job of the words after the program's name, or none where they break a rule
abbrev pub job_of : List Text → Option Job
job_of [] = None
job_of (word ∷ words) = option_and_then (λ verb. job_after verb words) (verb_of word)

-- ---- what is true of every job

-- the numbers of a job's options are in their ranges
pub record AreRight (o : Options) : Type 0 where
  pub some_worker : 1 ≤ o.workers
  pub few_workers : o.workers ≤ 64
  pub few_turns : o.turns ≤ 9223372036854775807

abbrev pub AllAssign : List Text → Type 0
AllAssign words = IsTrue (list_all is_assignment words)

abbrev pub IsRight : Job → Type 0
IsRight (job.Run prog graph args options image) = AllAssign args × AreRight options
IsRight (job.Check prog) = ⊤
IsRight (job.Compile prog) = ⊤
IsRight (job.Exec image graph args options) = AllAssign args × AreRight options
IsRight (job.Demo n options) = (1 ≤ n) × (n ≤ 1000000) × AreRight options
