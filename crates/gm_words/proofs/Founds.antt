-- The job of a command, from its matches.
use Rattle.std.proofs.Common.{◌≡◌, ◌⊎◌, ◌∙◌, inl, inr, ap, cond, Bool, true, false, List, [], ◌∷◌, Option, Some, refl, sym, codes}
use Rattle.std.specs.Prelude.{option_map, unwrap_or}
use Rattle.std.specs.Str.{bytes_eq}
use Rattle.clap.specs.Words.{first_value, found_of, matched_of, raw_values}
use Rattle.clap.specs.Matches.{one_text}
use Rattle.clap.specs.Walk.{Row}
use Rattle.clap.proofs.WalkLemmas.{first_value-rows, raw_values-rows}
use Rattle.clap.specs.declared.parser.matches.ArgMatches.{ArgMatches}
use Rattle.gm_words.specs.declared.jobs.Job.TheVariants as job
use Rattle.gm_words.specs.declared.jobs.Options.{Options}
use Rattle.gm_words.specs.declared.verbs.Verb.{Verb}
use Rattle.gm_words.specs.declared.verbs.Verb.TheVariants.{Run, Check, Compile, Exec, Demo}
use Rattle.gm_words.specs.Words.{Text, Known, is_used}
use Rattle.gm_words.specs.Jobs.{demo_job, exec_job, image_option, job_given, known_options, observe_option, one_word, options_by, options_of, run_job, text_of}
use Rattle.gm_words.specs.Found.{TellsFlag, TellsFlags, flag_found, is_true, job_found, options_found, words_found}
use Rattle.gm_words.proofs.Walks.{known_as, positional_id, positional_row}
use Rattle.gm_words.proofs.Matches.{IsFlag, IsNoFlag}
use Rattle.gm_words.proofs.Outcomes.{GivesTo}
use Rattle.gm_words.proofs.Flags.{flag_text}

-- what a parse tells of an option without a value
told : (o : Option Text) (b : Bool) → o ≡ Some (cond b (codes "true") (codes "false")) → is_true o ≡ b
told o true e = ap is_true e
told o false e = ap is_true e

tells : (o : Option Text) (b : Bool) → o ≡ Some (cond b (codes "true") (codes "false")) → (o ≡ Some (codes "true")) ⊎ (o ≡ Some (codes "false"))
tells o true e = inl e
tells o false e = inr e

module _ (known : List Known) (words : List Text) (m : ArgMatches) (gives : GivesTo known words m) where
  flag_is : (name : Text) (k : Known) → known_as name known ≡ Some k → k.has_value ≡ false → IsFlag name known → bytes_eq positional_id name ≡ false
      → is_used name gives.given_is ≡ flag_found name (found_of m)
  flag_is name k found flag is far =
      sym (told (one_text (found_of m) name) (is_used name gives.given_is) (flag_text known words m gives name k found flag is far))

  flag_tells : (name : Text) (k : Known) → known_as name known ≡ Some k → k.has_value ≡ false → IsFlag name known → bytes_eq positional_id name ≡ false
      → TellsFlag name (found_of m)
  flag_tells name k found flag is far =
      tells (one_text (found_of m) name) (is_used name gives.given_is) (flag_text known words m gives name k found flag is far)

  text_is : (name : Text) → IsNoFlag name known → bytes_eq positional_id name ≡ false → text_of name gives.given_is ≡ first_value (found_of m) name
  text_is name plain far = sym (first_value-rows (found_of m) name ∙ gives.reads.values name plain far)

  words_are : IsNoFlag positional_id known → gives.given_is.positionals ≡ words_found (found_of m)
  words_are plain = go gives.given_is.positionals (raw_values-rows (found_of m) positional_id ∙ ap (option_map (λ (r : Row). r.values)) (gives.reads.positionals plain))
    where
      go : (ps : List Text) → option_map raw_values (matched_of (found_of m) positional_id) ≡ option_map (λ (r : Row). r.values) (positional_row ps) → ps ≡ words_found (found_of m)
      go [] e = sym (ap (λ (o : Option (List Text)). unwrap_or o []) e)
      go (p ∷ ps) e = sym (ap (λ (o : Option (List Text)). unwrap_or o []) e)

  options_are : (observe : Bool) → IsNoFlag (codes "workers") known → IsNoFlag (codes "partition") known → IsNoFlag (codes "turns") known → IsNoFlag (codes "format") known
      → options_of observe gives.given_is ≡ options_found observe (found_of m)
  options_are observe workers partition turns format =
      let g = gives.given_is in
      let f = found_of m in
      ap (λ (w : Option Text). options_by observe w (text_of (codes "partition") g) (text_of (codes "turns") g) (text_of (codes "format") g)) (text_is (codes "workers") workers refl)
      ∙ ap (λ (w : Option Text). options_by observe (first_value f (codes "workers")) w (text_of (codes "turns") g) (text_of (codes "format") g)) (text_is (codes "partition") partition refl)
      ∙ ap (λ (w : Option Text). options_by observe (first_value f (codes "workers")) (first_value f (codes "partition")) w (text_of (codes "format") g)) (text_is (codes "turns") turns refl)
      ∙ ap (λ (w : Option Text). options_by observe (first_value f (codes "workers")) (first_value f (codes "partition")) (first_value f (codes "turns")) w) (text_is (codes "format") format refl)

-- a parse tells of the options that have no value
pub tells_flags : (verb : Verb) (words : List Text) (m : ArgMatches) → GivesTo (known_options verb) words m → TellsFlags verb (found_of m)
tells_flags Run words m gives = (
  flag_tells (known_options Run) words m gives (codes "image") image_option refl refl refl refl,
  flag_tells (known_options Run) words m gives (codes "observe") observe_option refl refl refl refl,
)
tells_flags Check words m gives = tt
tells_flags Compile words m gives = tt
tells_flags Exec words m gives = flag_tells (known_options Exec) words m gives (codes "observe") observe_option refl refl refl refl
tells_flags Demo words m gives = tt

-- the job is that of what the words gave
pub found_is : (verb : Verb) (words : List Text) (m : ArgMatches) (gives : GivesTo (known_options verb) words m) → job_given verb gives.given_is ≡ job_found verb (found_of m)
found_is Run words m gives =
    let g = gives.given_is in
    let f = found_of m in
    ap (λ (b : Bool). run_job b (is_used (codes "observe") g) (options_of (is_used (codes "observe") g) g) g.positionals)
    (flag_is (known_options Run) words m gives (codes "image") image_option refl refl refl refl)
    ∙ ap (λ (b : Bool). run_job (flag_found (codes "image") f) b (options_of b g) g.positionals)
    (flag_is (known_options Run) words m gives (codes "observe") observe_option refl refl refl refl)
    ∙ ap (λ (o : Option Options). run_job (flag_found (codes "image") f) (flag_found (codes "observe") f) o g.positionals)
    (options_are (known_options Run) words m gives (flag_found (codes "observe") f) refl refl refl refl)
    ∙ ap (run_job (flag_found (codes "image") f) (flag_found (codes "observe") f) (options_found (flag_found (codes "observe") f) f))
    (words_are (known_options Run) words m gives refl)
found_is Check words m gives = ap (λ (w : List Text). option_map job.Check (one_word w)) (words_are [] words m gives refl)
found_is Compile words m gives = ap (λ (w : List Text). option_map job.Compile (one_word w)) (words_are [] words m gives refl)
found_is Exec words m gives =
    let g = gives.given_is in
    let f = found_of m in
    ap (λ (b : Bool). exec_job (options_of b g) g.positionals) (flag_is (known_options Exec) words m gives (codes "observe") observe_option refl refl refl refl)
    ∙ ap (λ (o : Option Options). exec_job o g.positionals) (options_are (known_options Exec) words m gives (flag_found (codes "observe") f) refl refl refl refl)
    ∙ ap (exec_job (options_found (flag_found (codes "observe") f) f)) (words_are (known_options Exec) words m gives refl)
found_is Demo words m gives =
    let g = gives.given_is in
    let f = found_of m in
    ap (λ (o : Option Options). demo_job o g.positionals) (options_are (known_options Demo) words m gives false refl refl refl refl)
    ∙ ap (demo_job (options_found false f)) (words_are (known_options Demo) words m gives refl)
