use Rattle.std.proofs.Common.{◌≤◌, List, ℕ, length, subst, sym}
use Rattle.gm_image.specs.Views.{program}
use Rattle.gm_image_text.specs.ImageText.{IsTextOf, most_bytes}
use Rattle.gm_image_text.proofs.writes.written_and_read.Goals as goal

pub returns-clause-read : goal.returns-clause-read
returns-clause-read c = λ short.
    let p = program c.args.image.now in
    let Short : List ℕ → Type 0 = λ t. length t ≤ most_bytes in
    c.read_image.ensures.only p (subst (λ t. IsTextOf p t) (sym c.as_slice.ensures.value) c.in_ok-text.ensures.text)
    (subst Short (sym c.as_slice.ensures.value) (subst Short (sym c.in_ok-text.ensures.spelled) short))
