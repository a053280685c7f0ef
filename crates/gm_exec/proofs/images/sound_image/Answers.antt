use Rattle.std.proofs.Common.{◌≡◌, refl, sym, subst}
use Rattle.std.specs.Prelude.{Ok, Err, None}
use Rattle.gm_image.specs.declared.images.Image.{Image}
use Rattle.gm_image.specs.Soundness.{first_broken}
use Rattle.gm_image.specs.Views.{program}
use Rattle.gm_image_text.specs.ImageText.{IsTextOf}
use Rattle.gm_exec.specs.Flaws.{IsImageStop, image_stop, verify_stop}
use Rattle.gm_input.proofs.Naming.{passed-on}
use Rattle.gm_exec.proofs.Judging.{few_lines, short_text, unread_image, unsound_image}
use Rattle.gm_exec.proofs.images.sound_image.Goals as goal

pub returns-in_err-image-clause-flawed : goal.returns-in_err-image-clause-flawed
returns-in_err-image-clause-flawed c =
    passed-on (IsImageStop c.args.text.now) c.from_residual.result (image_stop c.in_err-image.field-0.0) c.from_residual.ensures.1
    (unread_image c.args.text.now (Err c.in_err-image.field-0.0) c.in_err-image.field-0.0 refl c.in_err-image.ensures.too_long c.in_err-image.ensures.never_longer c.in_err-image.ensures.bad_text)

pub verify-requires : goal.verify-requires
verify-requires c =
    few_lines c.args.text.now (program c.in_ok-image.image) c.in_ok-image.ensures.image
    (short_text c.args.text.now (Ok c.in_ok-image.image) c.in_ok-image.ensures.never_longer (λ e. cc))

pub returns-in_err-sound-clause-flawed : goal.returns-in_err-sound-clause-flawed
returns-in_err-sound-clause-flawed c =
    passed-on (IsImageStop c.args.text.now) c.from_residual-in_err-sound.result (verify_stop c.in_err-sound.field-0.0) c.from_residual-in_err-sound.ensures.1
    (unsound_image c.args.text.now (program c.in_ok-image.image) c.in_err-sound.field-0.0 c.in_ok-image.ensures.image
    (short_text c.args.text.now (Ok c.in_ok-image.image) c.in_ok-image.ensures.never_longer (λ e. cc))
    c.in_err-sound.ensures.broken)

pub returns-clause-stands : goal.returns-clause-stands
returns-clause-stands c = record {
  short = short_text c.args.text.now (Ok c.in_ok-image.image) c.in_ok-image.ensures.never_longer (λ e. cc);
  spelled = subst (λ (i : Image). IsTextOf (program i) c.args.text.now) (sym c.in_ok-sound.ensures.ok) c.in_ok-image.ensures.image;
  sound = subst (λ (i : Image). first_broken (program i) ≡ None) (sym c.in_ok-sound.ensures.ok) c.in_ok-sound.ensures.kept;
}
