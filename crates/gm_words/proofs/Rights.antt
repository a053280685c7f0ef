-- What is true of every job.
use Rattle.std.proofs.Common.{◌≡◌, ◌≤◌, ◌&&◌, ℕ, Bool, true, false, cond, not, List, [], ◌∷◌, Option, Some, None, refl, codes, arith, rules, leb-true}
use Rattle.std.specs.Prelude.{IfSome, nat_le, option_and_then, option_map}
use Rattle.std.specs.List.{list_all}
use Rattle.std.specs.Str.Parse.{digits_value}
use Rattle.clap.specs.Words.{first_value}
use Rattle.clap.specs.declared.parser.matches.Found.{Found}
use Rattle.gm_partition.specs.declared.Owner.{Owner}
use Rattle.gm_partition.specs.declared.Owner.TheVariants.{Mod}
use Rattle.gm_words.specs.declared.jobs.Format.{Format}
use Rattle.gm_words.specs.declared.jobs.Format.TheVariants.{Edges}
use Rattle.gm_words.specs.declared.jobs.Job.{Job}
use Rattle.gm_words.specs.declared.jobs.Job.TheVariants as job
use Rattle.gm_words.specs.declared.jobs.Options.{Options}
use Rattle.gm_words.specs.declared.verbs.Verb.{Verb}
use Rattle.gm_words.specs.declared.verbs.Verb.TheVariants.{Run, Check, Compile, Exec, Demo}
use Rattle.gm_words.specs.Words.{Text}
use Rattle.gm_words.specs.Found.{flag_found, job_found, options_found, words_found}
use Rattle.gm_words.specs.Jobs.{AllAssign, AreRight, IsRight, demo_job, exec_job, format_of_text, is_assignment, is_number, number_from, one_word, options_by, options_with, owner_of_text, run_job, turns_of_text, two_words, value_or, workers_of_text}

-- a number lies within its bounds
number_right : (least most : ℕ) (text : Text) → IfSome (number_from least most text) (λ n. (least ≤ n) × (n ≤ most))
number_right least most text = go (is_number text) (nat_le least (digits_value 10 text)) refl (nat_le (digits_value 10 text) most) refl
  where
    go : (a b : Bool) → nat_le least (digits_value 10 text) ≡ b → (c : Bool) → nat_le (digits_value 10 text) most ≡ c
        → IfSome (cond (a && (b && c)) (Some (digits_value 10 text)) None) (λ n. (least ≤ n) × (n ≤ most))
    go true true e true f = (leb-true least (digits_value 10 text) e, leb-true (digits_value 10 text) most f)
    go true true e false f = tt
    go true false e c f = tt
    go false b e c f = tt

-- a value holds what its usual value and each text's value hold
value_right : {A : Type 0} (P : A → Type 0) (usual : A) (read : Text → Option A) (o : Option Text) → P usual → ((text : Text) → IfSome (read text) P) → IfSome (value_or usual read o) P
value_right P usual read None here there = here
value_right P usual read (Some text) here there = there text

options_right : (observe : Bool) (workers partition turns format : Option Text) → IfSome (options_by observe workers partition turns format) AreRight
options_right observe workers partition turns format =
    go (value_or 4 workers_of_text workers) (value_or Mod owner_of_text partition) (value_or 1000000 turns_of_text turns) (value_or Edges format_of_text format)
    (value_right (λ n. (1 ≤ n) × (n ≤ 64)) 4 workers_of_text workers (omega arith, omega arith) (number_right 1 64))
    (value_right (λ n. (0 ≤ n) × (n ≤ 9223372036854775807)) 1000000 turns_of_text turns (omega arith, omega arith) (number_right 0 9223372036854775807))
  where
    go : (a : Option ℕ) (b : Option Owner) (c : Option ℕ) (d : Option Format) → IfSome a (λ n. (1 ≤ n) × (n ≤ 64)) → IfSome c (λ n. (0 ≤ n) × (n ≤ 9223372036854775807)) → IfSome (options_with observe a b c d) AreRight
    go (Some a) (Some b) (Some c) (Some d) h k = record { some_worker = h.0; few_workers = h.1; few_turns = k.1 }
    go (Some a) (Some b) (Some c) None h k = tt
    go (Some a) (Some b) None d h k = tt
    go (Some a) None c d h k = tt
    go None b c d h k = tt

two_right : (words : List Text) → IfSome (two_words words) (λ t. AllAssign t.2)
two_right [] = tt
two_right (a ∷ []) = tt
two_right (a ∷ b ∷ args) = go (list_all is_assignment args) refl
  where
    go : (t : Bool) → list_all is_assignment args ≡ t → IfSome {T = Text × Text × List Text} (cond t (Some (a, b, args)) None) (λ t. AllAssign t.2)
    go true e = search rules
    go false e = tt

run_right : (image observe : Bool) (options : Option Options) (words : List Text) → IfSome options AreRight → IfSome (run_job image observe options words) IsRight
run_right image observe options words h = guarded (observe && not image)
  where
    go : (o : Option Options) (t : Option (Text × Text × List Text)) → IfSome o AreRight → IfSome t (λ w. AllAssign w.2)
        → IfSome (option_and_then (λ o. option_map (λ w. job.Run w.0 w.1 w.2 o image) t) o) IsRight
    go None t h k = tt
    go (Some o) None h k = tt
    go (Some o) (Some w) h k = (k, h)

    guarded : (b : Bool) → IfSome (cond b None (option_and_then (λ o. option_map (λ w. job.Run w.0 w.1 w.2 o image) (two_words words)) options)) IsRight
    guarded true = tt
    guarded false = go options (two_words words) h (two_right words)

exec_right : (options : Option Options) (words : List Text) → IfSome options AreRight → IfSome (exec_job options words) IsRight
exec_right options words h = go options (two_words words) h (two_right words)
  where
    go : (o : Option Options) (t : Option (Text × Text × List Text)) → IfSome o AreRight → IfSome t (λ w. AllAssign w.2)
        → IfSome (option_and_then (λ o. option_map (λ w. job.Exec w.0 w.1 w.2 o) t) o) IsRight
    go None t h k = tt
    go (Some o) None h k = tt
    go (Some o) (Some w) h k = (k, h)

demo_right : (options : Option Options) (words : List Text) → IfSome options AreRight → IfSome (demo_job options words) IsRight
demo_right options words h = go options (one_word words) h
  where
    number : (o : Options) (n : Option ℕ) → AreRight o → IfSome n (λ n. (1 ≤ n) × (n ≤ 1000000)) → IfSome (option_map (λ n. job.Demo n o) n) IsRight
    number o None h k = tt
    number o (Some n) h k = (k.0, k.1, h)

    go : (o : Option Options) (w : Option Text) → IfSome o AreRight → IfSome (option_and_then (λ o. option_map (λ n. job.Demo n o) (option_and_then (number_from 1 1000000) w)) o) IsRight
    go None w h = tt
    go (Some o) None h = tt
    go (Some o) (Some text) h = number o (number_from 1 1000000 text) h (number_right 1 1000000 text)

file_right : (make : Text → Job) → ((t : Text) → IsRight (make t)) → (o : Option Text) → IfSome (option_map make o) IsRight
file_right make right None = tt
file_right make right (Some text) = right text

pub right_found : (verb : Verb) (f : Found) → IfSome (job_found verb f) IsRight
right_found Run f = run_right (flag_found (codes "image") f) (flag_found (codes "observe") f) (options_found (flag_found (codes "observe") f) f) (words_found f)
    (options_right (flag_found (codes "observe") f) (first_value f (codes "workers")) (first_value f (codes "partition")) (first_value f (codes "turns")) (first_value f (codes "format")))
right_found Check f = file_right job.Check (λ t. tt) (one_word (words_found f))
right_found Compile f = file_right job.Compile (λ t. tt) (one_word (words_found f))
right_found Exec f = exec_right (options_found (flag_found (codes "observe") f) f) (words_found f)
    (options_right (flag_found (codes "observe") f) (first_value f (codes "workers")) (first_value f (codes "partition")) (first_value f (codes "turns")) (first_value f (codes "format")))
right_found Demo f = demo_right (options_found false f) (words_found f)
    (options_right false (first_value f (codes "workers")) (first_value f (codes "partition")) (first_value f (codes "turns")) (first_value f (codes "format")))
