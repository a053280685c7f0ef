use Rattle.std.proofs.Common.{subst}
use Rattle.std.specs.Prelude.{IsTrue}
use Rattle.gm_image.specs.declared.images.Image.{Image}
use Rattle.gm_image.specs.Soundness.{is_sound}
use Rattle.gm_image.specs.Views.{program}
use Rattle.gm_driver.proofs.Imaging.{none_broken}
use Rattle.gm_driver.proofs.images.text_of_image.Goals as goal

pub returns : goal.returns
returns c = record {
  text_of = c.in_ok-text.ensures.spelled;
  spelled = c.in_ok-text.ensures.text;
  sound = none_broken (program c.args.image.now) (subst (λ (i : Image). IsTrue (is_sound (program i))) c.image-sound.ensures.same c.image-sound.ensures.sound);
}
