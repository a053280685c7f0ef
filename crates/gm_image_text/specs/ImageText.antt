-- Which texts are the texts of images, and where a text first stops being the beginning of one. An image has one
-- text in version 2. The same lines under the first line of version 1 are its text as well, unless one of them is a
-- `pick` or a `pickput`, which version 1 does not have.
use Rattle.std.specs.Prelude.{◌≡◌, ℕ, ◌+◌, ◌<◌, ◌≤◌, ⊤, List, ◌++◌, length, take, Result, Ok, Err}
use Rattle.gm_image.specs.declared.images.Image.{Image}
use Rattle.gm_image.specs.Program.{Program}
use Rattle.gm_image.specs.Views.{program}
use Rattle.gm_image_text.specs.declared.faults.ImageFault.{ImageFault}
use Rattle.gm_image_text.specs.declared.faults.ImageFault.TheVariants as fault
use Rattle.gm_image_text.specs.Lines.{Line}
use Rattle.gm_image_text.specs.declared.heads.Version.{Version}
use Rattle.gm_image_text.specs.Spelling.{lines_in, text_in}
use Rattle.gm_image_text.specs.Fits.{Fits}

-- the most bytes that a text may have
abbrev pub most_bytes : ℕ
most_bytes = 268435456

-- the text is the image's
pub record IsTextOf (p : Program) (text : List ℕ) : Type 0 where
  pub version : Version
  pub fits : Fits version p
  pub spelled : text ≡ text_in version p

-- the lines are those of an image's text
pub record AreLinesOf (p : Program) (lines : List Line) : Type 0 where
  pub version : Version
  pub fits : Fits version p
  pub spelled : lines_in version p ≡ lines

-- some image's text begins with these lines
pub record BeginsImage (front : List Line) : Type 0 where
  pub image : Program
  pub more : List Line
  pub spelled : AreLinesOf image (front ++ more)

-- The number of the first line with which the lines so far begin no image's text. A last line without its end
-- counts as a line, though no image's text has such a line. Behind the last line stands the line that is wanted
-- where the text is the beginning of an image's text and not yet the whole of one.
pub record IsBadLine (lines : List Line) (number : ℕ) : Type 0 where
  pub before : ℕ
  pub count : number ≡ before + 1
  pub within : before ≤ length lines
  pub good : BeginsImage (take before lines)
  pub bad : before < length lines → BeginsImage (take number lines) → ⊥
  pub unfinished : before ≡ length lines → (p : Program) → AreLinesOf p lines → ⊥

-- the answer to a text of this image
abbrev pub IsReadOf : Program → Result Image ImageFault → Type 0
IsReadOf p (Ok image) = program image ≡ p
IsReadOf p (Err (fault.BadText line)) = ⊥
IsReadOf p (Err fault.TooLong) = ⊥
IsReadOf p (Err fault.NoMemory) = ⊤
