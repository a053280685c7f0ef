-- What is said of the front of an image's text is true of the text.
use Rattle.std.proofs.Common.{◌≡◌, ◌≤◌, ◌+◌, ℕ, List, length, take, min, refl, arith}
use Rattle.std.proofs.lemmas.List.{take_all, length-take}
use Rattle.gm_base.specs.declared.statuses.Status.{Status}
use Rattle.gm_image.specs.Program.{Program}
use Rattle.gm_image_text.specs.ImageText.{most_bytes}
use Rattle.gm_words.specs.declared.jobs.Options.{Options}
use Rattle.gm_input.proofs.Answering.{text_answer_front}
use Rattle.gm_input.proofs.Roading.{IsRightRoad}
use Rattle.gm_exec.specs.declared.flaws.Flaw.{Flaw}
use Rattle.gm_exec.specs.declared.flaws.Flaw.TheVariants as flaw
use Rattle.gm_exec.specs.Flaws.{HasFlaw, StandsFor}
use Rattle.gm_exec.specs.Programs.{shape_of, inputs_of}
use Rattle.gm_exec.specs.Runs.{Audience, Ran}
use Rattle.gm_exec.specs.Replies.{SaysFlaw, image_road, most_image}

-- the first bytes of a text are all of it, where they are few enough
front_all : (n : ℕ) (whole : List ℕ) → n ≡ most_bytes + 1 → length (take n whole) ≤ most_bytes → take n whole ≡ whole
front_all n whole is few =
    let size : length (take n whole) ≡ min n (length whole) = length-take n whole in
    take_all n whole (omega (arith, size, few, is))

-- what is wrong with a front is wrong with the text
pub whole_flaw : (n : ℕ) (whole : List ℕ) (f : Flaw) → n ≡ most_bytes + 1 → HasFlaw (take n whole) f → HasFlaw whole f
whole_flaw n whole flaw.TooLong is has =
    let size : length (take n whole) ≡ min n (length whole) = length-take n whole in
    omega (arith, size, has)
whole_flaw n whole (flaw.BadText line) is has = rw (front_all n whole is has.0) at has
whole_flaw n whole (flaw.Broken rule line) is has = rw (front_all n whole is has.short) at has

-- the image of a front is that of the text
pub whole_stands : (n : ℕ) (whole : List ℕ) (p : Program) → n ≡ most_bytes + 1 → StandsFor (take n whole) p → StandsFor whole p
whole_stands n whole p is stands = rw (front_all n whole is stands.short) at stands

said_flaw : (n : ℕ) (whole text : List ℕ) (status : Status) → n ≡ most_bytes + 1 → SaysFlaw (take n whole) text status → SaysFlaw whole text status
said_flaw n whole text status is said = record { flaw = said.flaw; has = whole_flaw n whole said.flaw is said.has; says = said.says }

-- the road of an image is right
pub image_right : (words : List (List ℕ)) (options : Options) (a : Audience) → IsRightRoad (image_road words options a)
image_right words options a = record {
  stands = λ whole p stands. whole_stands most_image whole p refl stands;
  bad = λ whole text status said. said_flaw most_image whole text status refl said;
  short = λ bytes p stands. let few : length bytes ≤ most_bytes = stands.short in omega (arith, few);
  over = λ p whole text status answer. text_answer_front options.format (shape_of p) (inputs_of p) words (Ran p options.turns options.observe a) whole text status answer;
}
