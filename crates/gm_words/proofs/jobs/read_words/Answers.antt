use Rattle.std.proofs.Common.{rules, ◌≡◌, ◌∙◌, ◌<◌, map, length, string_bytes, sym, subst}
use Rattle.std.specs.Prelude.{IfSome}
use Rattle.std.proofs.lemmas.Result.{IfOk-weaker}
use Rattle.clap.specs.Words.{app_of, found_of}
use Rattle.gm_words.specs.Jobs.{IsRight}
use Rattle.gm_words.proofs.Founds.{tells_flags}
use Rattle.gm_words.proofs.Rights.{right_found}
use Rattle.gm_words.proofs.Wholes.{by_verb, failed, fails, gives, passed}
use Rattle.gm_words.proofs.jobs.read_words.Goals as goal

pub returns-in-Err-clause-usage : goal.returns-in-Err-clause-usage
returns-in-Err-clause-usage c =
    let words = c.args.words.now in
    let verb = c.in-Some-read_verb.verb in
    let some : 0 < length words = search rules in
    let first = rw c.in-Some.is at c.first.ensures.value in
    let asked = by_verb words c.in-Some.first.now _ _ (sym first) c.as_str.ensures.value (sym c.in-Some-read_verb.is ∙ c.read_verb.ensures) in
    let failure = rw c.in-Err.is at (fails words verb (app_of c.in_ok-command.command) some c.in_ok-command.ensures c.try_get_matches_from.result c.try_get_matches_from.ensures.kinds) in
    λ usage.
    let stopped : c.stop_of.result ≡ _ = cc in
    asked ∙ failed verb (map string_bytes words) (failure (c.stop_of.ensures stopped))

pub read_found-requires : goal.read_found-requires
read_found-requires c =
    let words = c.args.words.now in
    let verb = c.in-Some-read_verb.verb in
    let some : 0 < length words = search rules in
    let given = rw c.in-Ok.is at (gives words verb (app_of c.in_ok-command.command) some c.in_ok-command.ensures c.try_get_matches_from.result c.try_get_matches_from.ensures.kinds c.try_get_matches_from.ensures.matches) in
    tells_flags verb (map string_bytes words) c.in-Ok.matches given

pub returns-clause-job : goal.returns-clause-job
returns-clause-job c =
    let words = c.args.words.now in
    let verb = c.in-Some-read_verb.verb in
    let some : 0 < length words = search rules in
    let first = rw c.in-Some.is at c.first.ensures.value in
    let asked = by_verb words c.in-Some.first.now _ _ (sym first) c.as_str.ensures.value (sym c.in-Some-read_verb.is ∙ c.read_verb.ensures) in
    let given = rw c.in-Ok.is at (gives words verb (app_of c.in_ok-command.command) some c.in_ok-command.ensures c.try_get_matches_from.result c.try_get_matches_from.ensures.kinds c.try_get_matches_from.ensures.matches) in
    let same = asked ∙ passed verb (map string_bytes words) c.in-Ok.matches given in
    IfOk-weaker c.read_found.result _ _ (λ job h. same ∙ h) c.read_found.ensures.job

pub returns-clause-usage : goal.returns-clause-usage
returns-clause-usage c =
    let words = c.args.words.now in
    let verb = c.in-Some-read_verb.verb in
    let some : 0 < length words = search rules in
    let first = rw c.in-Some.is at c.first.ensures.value in
    let asked = by_verb words c.in-Some.first.now _ _ (sym first) c.as_str.ensures.value (sym c.in-Some-read_verb.is ∙ c.read_verb.ensures) in
    let given = rw c.in-Ok.is at (gives words verb (app_of c.in_ok-command.command) some c.in_ok-command.ensures c.try_get_matches_from.result c.try_get_matches_from.ensures.kinds c.try_get_matches_from.ensures.matches) in
    λ usage. asked ∙ passed verb (map string_bytes words) c.in-Ok.matches given ∙ c.read_found.ensures.usage usage

pub returns-clause-right : goal.returns-clause-right
returns-clause-right c =
    let found = c.read_found.ensures.job in
    IfOk-weaker c.read_found.result _ _ (λ job h. subst (λ o. IfSome o IsRight) h (right_found c.in-Some-read_verb.verb (found_of c.in-Ok.matches))) found
