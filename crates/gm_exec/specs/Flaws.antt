-- Which texts are texts of images that run, what is wrong with others, and the line that says so.
use Rattle.std.specs.Prelude.{◌≡◌, ◌<◌, ◌≤◌, ℕ, ⊤, List, ◌++◌, length, Some, None, codes, decimal}
use Rattle.gm_image.specs.declared.rules.ImageRule.{ImageRule}
use Rattle.gm_image.specs.Program.{Program}
use Rattle.gm_image.specs.RuleNames.{image_rule_text}
use Rattle.gm_image.specs.Soundness.{first_broken}
use Rattle.gm_image_text.specs.declared.faults.ImageFault.{ImageFault}
use Rattle.gm_image_text.specs.declared.faults.ImageFault.TheVariants as fault
use Rattle.gm_image_text.specs.ImageText.{IsTextOf, IsBadLine, most_bytes}
use Rattle.gm_image_text.specs.Lines.{lines_of}
use Rattle.gm_verify.specs.declared.stops.VerifyStop.{VerifyStop}
use Rattle.gm_verify.specs.declared.stops.VerifyStop.TheVariants as verify
use Rattle.gm_listing.specs.Listing.{line_end}
use Rattle.gm_exec.specs.declared.flaws.Flaw.{Flaw}
use Rattle.gm_exec.specs.declared.flaws.Flaw.TheVariants as flaw
use Rattle.gm_exec.specs.declared.flaws.ImageStop.{ImageStop}
use Rattle.gm_exec.specs.declared.flaws.ImageStop.TheVariants as stop

-- a text stands for a sound image: it is the image's text, no longer than a text may be, and no line of it breaks a rule
pub record StandsFor (text : List ℕ) (p : Program) : Type 0 where
  pub short : length text ≤ most_bytes
  pub spelled : IsTextOf p text
  pub sound : first_broken p ≡ None

-- a text is that of an image, and this line is the least that breaks a rule, and the rule the least that it breaks
pub record BreaksRule (text : List ℕ) (rule : ImageRule) (line : ℕ) : Type 0 where
  pub image : Program
  pub short : length text ≤ most_bytes
  pub spelled : IsTextOf image text
  pub first : first_broken image ≡ Some (record { rule = rule; line = line })

-- what is wrong with a text: it is too long; or else it is no image's text, which shows first in this line; or else it is
-- the text of an image that breaks a rule
abbrev pub HasFlaw : List ℕ → Flaw → Type 0
HasFlaw text flaw.TooLong = most_bytes < length text
HasFlaw text (flaw.BadText line) = (length text ≤ most_bytes) × IsBadLine (lines_of text) line
HasFlaw text (flaw.Broken rule line) = BreaksRule text rule line

-- why a text gave no sound image; that memory ran out says nothing of it
abbrev pub IsImageStop : List ℕ → ImageStop → Type 0
IsImageStop text (stop.Flawed f) = HasFlaw text f
IsImageStop text stop.NoMemory = ⊤

-- what stopped the reading of an image, and what the judging of it, as why its text gave no sound image
abbrev pub image_stop : ImageFault → ImageStop
image_stop (fault.BadText line) = stop.Flawed (flaw.BadText line)
image_stop fault.TooLong = stop.Flawed flaw.TooLong
image_stop fault.NoMemory = stop.NoMemory

abbrev pub verify_stop : VerifyStop → ImageStop
verify_stop (verify.Broken rule line) = stop.Flawed (flaw.Broken rule line)
verify_stop verify.NoMemory = stop.NoMemory

-- the line for what is wrong with a line of an image's text
abbrev pub image_line : List ℕ → ℕ → List ℕ
image_line kind number = codes "image " ++ kind ++ codes " at line " ++ decimal number ++ line_end

-- the line for what is wrong with an image's text
abbrev pub flaw_text : Flaw → List ℕ
flaw_text flaw.TooLong = codes "image TooLong" ++ line_end
flaw_text (flaw.BadText line) = image_line (codes "BadText") line
flaw_text (flaw.Broken rule line) = image_line (image_rule_text rule) line
