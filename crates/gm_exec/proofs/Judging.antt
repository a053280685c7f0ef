-- What is wrong with an image's text, by what its reader and its judge say.
use Rattle.std.proofs.Common.{◌≡◌, ◌≤◌, ◌<◌, ℕ, List, length, refl, arith}
use Rattle.std.specs.Prelude.{Result, Err}
use Rattle.gm_image.specs.declared.images.Image.{Image}
use Rattle.gm_image.specs.Program.{Program}
use Rattle.gm_image.specs.Rows.{line_count}
use Rattle.gm_image_text.specs.declared.faults.ImageFault.{ImageFault}
use Rattle.gm_image_text.specs.declared.faults.ImageFault.TheVariants as fault
use Rattle.gm_image_text.specs.ImageText.{IsTextOf, IsBadLine, most_bytes}
use Rattle.gm_image_text.specs.Lines.{lines_of}
use Rattle.gm_image_text.specs.Spelling.{image_text}
use Rattle.gm_verify.specs.Checks.{IsFirstBroken}
use Rattle.gm_verify.specs.declared.stops.VerifyStop.{VerifyStop}
use Rattle.gm_verify.specs.declared.stops.VerifyStop.TheVariants as verify
use Rattle.gm_exec.specs.Flaws.{IsImageStop, image_stop, verify_stop}
use Rattle.gm_exec.proofs.Counting.{lines-few}

-- what is not longer is as long at most
within : (n m : ℕ) → (n < m → ⊥) → m ≤ n
within n m not = omega (arith, not)

-- a text of which something else was said than that it is too long
pub short_text : (text : List ℕ) (r : Result Image ImageFault) → (most_bytes < length text → r ≡ Err fault.TooLong) → (r ≡ Err fault.TooLong → ⊥) → length text ≤ most_bytes
short_text text r longer not = within most_bytes (length text) (λ more. not (longer more))

-- the text of an image that is judged has few lines
pub few_lines : (text : List ℕ) (p : Program) → IsTextOf p text → length text ≤ most_bytes → line_count p < 4294967296
few_lines text p spelled short =
    let lines : line_count p ≤ length (image_text p) = lines-few p in
    let few : length (image_text p) ≤ most_bytes = rw spelled.spelled at short in
    omega (arith, lines, few)

-- what the reader says
pub unread_image : (text : List ℕ) (r : Result Image ImageFault) (e : ImageFault) → r ≡ Err e → (r ≡ Err fault.TooLong → most_bytes < length text) → (most_bytes < length text → r ≡ Err fault.TooLong)
    → ((line : ℕ) → e ≡ fault.BadText line → IsBadLine (lines_of text) line) → IsImageStop text (image_stop e)
unread_image text r (fault.BadText line) was long longer bad = (short_text text r longer (λ too. cc), bad line refl)
unread_image text r fault.TooLong was long longer bad = long was
unread_image text r fault.NoMemory was long longer bad = tt

-- what the judge says
pub unsound_image : (text : List ℕ) (p : Program) (s : VerifyStop) → IsTextOf p text → length text ≤ most_bytes → IsFirstBroken p s → IsImageStop text (verify_stop s)
unsound_image text p (verify.Broken rule line) spelled short first = record { image = p; short = short; spelled = spelled; first = first }
unsound_image text p verify.NoMemory spelled short first = tt
