-- What each command makes of what its words give.
use Rattle.std.proofs.Common.{◌≡◌, ◌∙◌, ◌++◌, ap, subst, cond, ℕ, Bool, true, false, List, [], ◌∷◌, Option, Some, None, refl, sym, codes}
use Rattle.std.specs.Prelude.{option_and_then, unwrap_or}
use Rattle.std.specs.Option.{option_or}
use Rattle.std.specs.Str.{bytes_eq}
use Rattle.std.proofs.lemmas.List.Folds.{find-append}
use Rattle.gm_partition.specs.declared.Owner.{Owner}
use Rattle.gm_words.specs.declared.jobs.Format.{Format}
use Rattle.gm_words.specs.declared.jobs.Options.{Options}
use Rattle.gm_words.specs.declared.verbs.Verb.{Verb}
use Rattle.gm_words.specs.declared.verbs.Verb.TheVariants.{Run, Check, Compile, Exec, Demo}
use Rattle.gm_words.specs.Words.{Text, Known, Given, is_used, nothing}
use Rattle.gm_words.specs.Jobs.{demo_job, exec_job, format_option, image_option, job_after, job_given, known_options, observe_option, options_of, options_with, partition_option, run_job, text_of, turns_option, workers_option}
use Rattle.gm_words.proofs.Walks.{known_as}
use Rattle.gm_words.proofs.Parses.{taken_after}
use Rattle.gm_words.proofs.Hyphens.{Dashed, dash}
use Rattle.gm_words.proofs.Outcomes.{same_job}

-- ---- an option with the value `-` leaves no options

no_owner : (observe : Bool) (a c : Option ℕ) (d : Option Format) → options_with observe a None c d ≡ None
no_owner observe None c d = refl
no_owner observe (Some n) c d = refl

no_turns : (observe : Bool) (a : Option ℕ) (b : Option Owner) (d : Option Format) → options_with observe a b None d ≡ None
no_turns observe None b d = refl
no_turns observe (Some n) None d = refl
no_turns observe (Some n) (Some w) d = refl

no_format : (observe : Bool) (a : Option ℕ) (b : Option Owner) (c : Option ℕ) → options_with observe a b c None ≡ None
no_format observe None b c = refl
no_format observe (Some n) None c = refl
no_format observe (Some n) (Some w) None = refl
no_format observe (Some n) (Some w) (Some t) = refl

no_options : (observe : Bool) (g : Given) → Dashed (known_options Run) g → options_of observe g ≡ None
no_options observe g d = by_name (bytes_eq (codes "workers") d.0) (bytes_eq (codes "partition") d.0) (bytes_eq (codes "turns") d.0) (bytes_eq (codes "format") d.0) (bytes_eq (codes "observe") d.0) (bytes_eq (codes "image") d.0) d.2
  where
    text_at : (k : Known) → k ≡ d.1 → text_of k.name g ≡ Some dash
    text_at k is = subst (λ (x : Known). text_of x.name g ≡ Some dash) (sym is) d.4

    not_flag : (k : Known) → k ≡ d.1 → k.has_value ≡ false → ⊥
    not_flag k is flag = let bad : true ≡ false = sym d.3 ∙ (ap (λ (x : Known). x.has_value) (sym is) ∙ flag) in cc

    by_name : (a b c f o i : Bool)
        → cond a (Some workers_option) (cond b (Some partition_option) (cond c (Some turns_option) (cond f (Some format_option) (cond o (Some observe_option) (cond i (Some image_option) None))))) ≡ Some d.1
        → options_of observe g ≡ None
    by_name true b c f o i e = rw (text_at workers_option (ap (λ (x : Option Known). unwrap_or x d.1) e)) refl
    by_name false true c f o i e = rw (text_at partition_option (ap (λ (x : Option Known). unwrap_or x d.1) e)) (no_owner observe _ _ _)
    by_name false false true f o i e = rw (text_at turns_option (ap (λ (x : Option Known). unwrap_or x d.1) e)) (no_turns observe _ _ _)
    by_name false false false true o i e = rw (text_at format_option (ap (λ (x : Option Known). unwrap_or x d.1) e)) (no_format observe _ _ _)
    by_name false false false false true i e = absurd (not_flag observe_option (ap (λ (x : Option Known). unwrap_or x d.1) e) refl)
    by_name false false false false false true e = absurd (not_flag image_option (ap (λ (x : Option Known). unwrap_or x d.1) e) refl)
    by_name false false false false false false e = cc

-- what is known of the first options is known of all
more_known : (known more : List Known) (name : Text) (k : Known) → known_as name known ≡ Some k → known_as name (known ++ more) ≡ Some k
more_known known more name k found =
    find-append (λ x. bytes_eq x.name name) known more ∙ ap (λ (o : Option Known). option_or o (known_as name more)) found

more_dashed : (known more : List Known) (g : Given) → Dashed known g → Dashed (known ++ more) g
more_dashed known more g d = (d.0, d.1, more_known known more d.0 d.1 d.2, d.3, d.4)

-- so it leaves no job
no_run : (image observe : Bool) (words : List Text) → run_job image observe None words ≡ None
no_run true true words = refl
no_run false true words = refl
no_run image false words = refl

dashed_none : (verb : Verb) (g : Given) → Dashed (known_options verb) g → job_given verb g ≡ None
dashed_none Run g d =
    ap (λ (o : Option Options). run_job (is_used (codes "image") g) (is_used (codes "observe") g) o g.positionals) (no_options (is_used (codes "observe") g) g d)
    ∙ no_run (is_used (codes "image") g) (is_used (codes "observe") g) g.positionals
dashed_none Check g d = cc
dashed_none Compile g d = cc
dashed_none Exec g d =
    ap (λ (o : Option Options). exec_job o g.positionals) (no_options (is_used (codes "observe") g) g (more_dashed (known_options Exec) (image_option ∷ []) g d))
dashed_none Demo g d =
    ap (λ (o : Option Options). demo_job o g.positionals) (no_options false g (more_dashed (known_options Demo) (turns_option ∷ format_option ∷ observe_option ∷ image_option ∷ []) g d))

-- the job is the same by the words as by the parse
pub same : (verb : Verb) (words : List Text) → job_after verb words ≡ option_and_then (job_given verb) (taken_after (known_options verb) words None nothing)
same verb words = same_job (known_options verb) (job_given verb) words (dashed_none verb)
