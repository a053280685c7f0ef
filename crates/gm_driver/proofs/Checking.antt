-- A verdict on the front of a text is one on the text.
use Rattle.std.proofs.Common.{◌≡◌, ◌≤◌, ◌<◌, ◌+◌, ◌∙◌, ℕ, List, Option, length, take, refl, sym, arith, min, inl, inr}
use Rattle.std.proofs.lemmas.List.{take-take, take_all, length-take}
use Rattle.gm_base.specs.declared.rules.Refusal.{Refusal}
use Rattle.gm_base.specs.declared.statuses.Status.{Status}
use Rattle.gm_ast.specs.Program.{Program}
use Rattle.gm_token.specs.declared.limits.TheConstants.{MAX_TEXT}
use Rattle.gm_token.specs.Scanning.{IsRefusalOf}
use Rattle.gm_canon.specs.Verdict.{Breaks, by_tokens, by_grammar, by_tree, StandsFor}
use Rattle.gm_driver.specs.Fronts.{most_program}
use Rattle.gm_words.specs.declared.jobs.Options.{Options}
use Rattle.gm_input.proofs.Answering.{text_answer_front}
use Rattle.gm_input.proofs.Roading.{IsRightRoad}
use Rattle.gm_source_runs.specs.Answers.{Ran}
use Rattle.gm_run.specs.Compiled.{RanShown}
use Rattle.gm_source_runs.specs.Programs.{shape_of, inputs_of}
use Rattle.gm_driver.specs.Checks.{IsVerdict, accepted, refused}
use Rattle.gm_exec.specs.Runs as exec
use Rattle.gm_compile.specs.Compiled.{compiled}
use Rattle.gm_driver.specs.Images.{HasImage, HasNoImage, IsCompiled, unwritten, written, SaysNoRun, no_image, shown_road}
use Rattle.gm_driver.specs.Images.{refused as refused_run}
use Rattle.gm_driver.specs.Runs.{SaysRefused, program_road}

-- the first bytes of a text are all of it, where they are fewer
front_all : (n : ℕ) (whole : List ℕ) → length (take n whole) < n → take n whole ≡ whole
front_all n whole few =
    let size : length (take n whole) ≡ min n (length whole) = length-take n whole in
    take_all n whole (omega (arith, size, few))

-- a text whose front has tokens is no longer than its front
scanned_front : (n : ℕ) (whole : List ℕ) → n ≡ MAX_TEXT + 1 → length (take n whole) ≤ MAX_TEXT → take n whole ≡ whole
scanned_front n whole is few = front_all n whole (omega (arith, is, few))

-- the refusal of a front is that of the text
whole_refusal : (n : ℕ) (whole : List ℕ) (r : Refusal) → n ≡ MAX_TEXT + 1 → IsRefusalOf (take n whole) r → IsRefusalOf whole r
whole_refusal n whole r is (inl long) =
    let size : length (take n whole) ≡ min n (length whole) = length-take n whole in
    let same : take MAX_TEXT (take n whole) ≡ take MAX_TEXT whole = take-take MAX_TEXT n whole (omega (arith, is)) in
    inl (omega (arith, size, long.0), rw same at long.1)
whole_refusal n whole r is (inr few) =
    let front : IsRefusalOf (take n whole) r = inr few in
    rw (scanned_front n whole is few.0) at front

pub whole_breaks : (n : ℕ) (whole : List ℕ) (r : Refusal) → n ≡ MAX_TEXT + 1 → Breaks (take n whole) r → Breaks whole r
whole_breaks n whole r is (by_tokens bad) = by_tokens (whole_refusal n whole r is bad)
whole_breaks n whole r is (by_grammar it scanned refused_so) =
    let front : Breaks (take n whole) r = by_grammar it scanned refused_so in
    rw (scanned_front n whole is scanned.0) at front
whole_breaks n whole r is (by_tree tree spells broken) =
    let front : Breaks (take n whole) r = by_tree tree spells broken in
    rw (scanned_front n whole is spells.scanned.0) at front

-- what a front stands for the text stands for
pub whole_stands : (n : ℕ) (whole : List ℕ) (p : Program) → n ≡ MAX_TEXT + 1 → StandsFor (take n whole) p → StandsFor whole p
whole_stands n whole p is stands = rw (scanned_front n whole is stands.spelled.scanned.0) at stands

-- the verdict on a front is that on the text
pub whole_verdict : (n : ℕ) (whole text : List ℕ) (status : Status) → n ≡ MAX_TEXT + 1 → IsVerdict (take n whole) text status → IsVerdict whole text status
whole_verdict n whole text status is (accepted p stands says) = accepted p (whole_stands n whole p is stands) says
whole_verdict n whole text status is (refused said) = refused (record { refusal = said.refusal; breaks = whole_breaks n whole said.refusal is said.breaks; says = said.says })

-- the verdict on what was read of a text is one on the text
pub front_verdict : (bytes whole text : List ℕ) (status : Status) → bytes ≡ take most_program whole → IsVerdict bytes text status → IsVerdict whole text status
front_verdict bytes whole text status e v = whole_verdict most_program whole text status refl (rw e at v)

-- the road of a program is right
said_refused : (n : ℕ) (whole text : List ℕ) (status : Status) → n ≡ MAX_TEXT + 1 → SaysRefused (take n whole) text status → SaysRefused whole text status
said_refused n whole text status is said = record { refusal = said.refusal; breaks = whole_breaks n whole said.refusal is said.breaks; says = said.says }

pub program_right : (words : List (List ℕ)) (options : Options) → IsRightRoad (program_road words options)
program_right words options = record {
  stands = λ whole p stands. whole_stands most_program whole p refl stands;
  bad = λ whole text status said. said_refused most_program whole text status refl said;
  short = λ bytes p stands. let few : length bytes ≤ MAX_TEXT = stands.spelled.scanned.0 in omega (arith, few);
  over = λ p whole text status answer. text_answer_front options.format (shape_of p) (inputs_of p) words (Ran p options.turns) whole text status answer;
}

-- ---- compilation

has_front : (n : ℕ) (whole : List ℕ) (p : Program) → n ≡ MAX_TEXT + 1 → HasImage (take n whole) p → HasImage whole p
has_front n whole p is it = record { stands = whole_stands n whole p is it.stands; has = it.has; represents = it.represents }

lacks_front : (n : ℕ) (whole : List ℕ) → n ≡ MAX_TEXT + 1 → HasNoImage (take n whole) → HasNoImage whole
lacks_front n whole is it = record { source = it.source; stands = whole_stands n whole it.source is it.stands; none = it.none }

no_run_front : (n : ℕ) (whole text : List ℕ) (status : Status) → n ≡ MAX_TEXT + 1 → SaysNoRun (take n whole) text status → SaysNoRun whole text status
no_run_front n whole text status is (refused_run said) = refused_run (said_refused n whole text status is said)
no_run_front n whole text status is (no_image said) = no_image (record { none = lacks_front n whole is said.none; says = said.says })

compiled_front : (n : ℕ) (whole text : List ℕ) (status : Status) → n ≡ MAX_TEXT + 1 → IsCompiled (take n whole) text status → IsCompiled whole text status
compiled_front n whole text status is (written p it spelled ended) = written p (has_front n whole p is it) spelled ended
compiled_front n whole text status is (unwritten said) = unwritten (no_run_front n whole text status is said)

-- what is compiled of what was read of a text is compiled of the text
pub front_compiled : (bytes whole text : List ℕ) (status : Status) → bytes ≡ take most_program whole → IsCompiled bytes text status → IsCompiled whole text status
front_compiled bytes whole text status e c = compiled_front most_program whole text status refl (rw e at c)

-- the road of a program whose image is shown is right
pub shown_right : (words : List (List ℕ)) (options : Options) (a : exec.Audience) → IsRightRoad (shown_road words options a)
shown_right words options a = record {
  stands = λ whole p it. has_front most_program whole p refl it;
  bad = λ whole text status said. no_run_front most_program whole text status refl said;
  short = λ bytes p it. let few : length bytes ≤ MAX_TEXT = it.stands.spelled.scanned.0 in omega (arith, few);
  over = λ p whole text status answer.
      text_answer_front options.format (shape_of p) (inputs_of p) words (RanShown (compiled p) p options.turns options.observe a) whole text status answer;
}
