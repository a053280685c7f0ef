-- The job of a whole command line, by its first word and by the parse.
use Rattle.std.proofs.Common.{◌≡◌, ◌≢◌, ◌∙◌, ◌<◌, ap, true, List, [], ◌∷◌, drop, length, map, Option, Some, None, Result, IfOk, IfErr, sym, subst, string_bytes, codes}
use Rattle.std.specs.Prelude.{String, option_and_then, slice_get, unwrap_or}
use Rattle.clap.specs.Words.{App, FailsBy, HasMatchesOf, found_of, kind_of}
use Rattle.clap.specs.Faults.{fault_of, is_simple_and_free}
use Rattle.clap.specs.declared.error.Error.{Error}
use Rattle.clap.specs.declared.error.kind.ErrorKind.TheVariants.{OutOfMemory}
use Rattle.clap.specs.declared.parser.matches.ArgMatches.{ArgMatches}
use Rattle.gm_words.specs.declared.verbs.Verb.{Verb}
use Rattle.gm_words.specs.Words.{Text}
use Rattle.gm_words.specs.Found.{job_found}
use Rattle.gm_words.specs.Jobs.{job_after, job_given, job_of, known_options, verb_of}
use Rattle.gm_words.proofs.Founds.{found_is}
use Rattle.gm_words.proofs.Givens.{same}
use Rattle.gm_words.specs.Commands.{command_app}
use Rattle.gm_words.proofs.Exact.{exact}
use Rattle.gm_words.proofs.Outcomes.{GivesTo, IsExact, err_gives, ok_gives, taken_of}
use Rattle.gm_words.proofs.Spelled.{all_spelled, some_words}

-- the job by what the first word asks for
pub by_verb : {Z : Type 0} (words : List (String Z)) (first : String Z) (text : Text) (verb : Option Verb) → slice_get words 0 ≡ Some first → text ≡ string_bytes first → verb ≡ verb_of text
    → job_of (map string_bytes words) ≡ option_and_then (λ v. job_after v (drop 1 (map string_bytes words))) verb
by_verb [] first text verb is same_text same_verb = cc
by_verb (w ∷ words) first text verb is same_text same_verb =
    let word : string_bytes w ≡ text = ap string_bytes (ap (λ (o : Option (String _)). unwrap_or o first) is) ∙ sym same_text in
    ap (λ (t : Text). option_and_then (λ v. job_after v (map string_bytes words)) (verb_of t)) word
    ∙ ap (option_and_then (λ v. job_after v (map string_bytes words))) (sym same_verb)

-- the job of a command where the parse passes, and where it fails
pub passed : (verb : Verb) (words : List Text) (m : ArgMatches) → GivesTo (known_options verb) words m → job_after verb (drop 1 words) ≡ job_found verb (found_of m)
passed verb words m gives = same verb (drop 1 words) ∙ ap (option_and_then (job_given verb)) gives.taken_is ∙ found_is verb words m gives

pub failed : (verb : Verb) (words : List Text) → taken_of (known_options verb) words ≡ None → job_after verb (drop 1 words) ≡ None
failed verb words none = same verb (drop 1 words) ∙ ap (option_and_then (job_given verb)) none

-- what the parse of a command gives, in both outcomes
module _ {Z : Type 0} (words : List (String Z)) (verb : Verb) (a : App) (some : 0 < length words) (is : a ≡ command_app (codes "gm") verb) where
  abbrev texts : List Text
  texts = map string_bytes words

  own : IsExact (codes "gm") (known_options verb) a
  own = subst (IsExact (codes "gm") (known_options verb)) (sym is) (exact (codes "gm") verb)

  pub gives : (r : Result ArgMatches Error) → (is_simple_and_free a ≡ true → FailsBy (fault_of a texts) r) → IfOk r (HasMatchesOf a texts)
      → IfOk r (GivesTo (known_options verb) texts)
  gives r fails has = ok_gives (codes "gm") (known_options verb) a own texts (some_words words some) (all_spelled words) r fails has

  pub fails : (r : Result ArgMatches Error) → (is_simple_and_free a ≡ true → FailsBy (fault_of a texts) r)
      → IfErr r (λ e. kind_of e ≢ OutOfMemory → taken_of (known_options verb) texts ≡ None)
  fails r why = err_gives (codes "gm") (known_options verb) a own texts (some_words words some) (all_spelled words) r why
