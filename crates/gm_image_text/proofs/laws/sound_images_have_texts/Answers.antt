use Rattle.std.proofs.Common.{refl}
use Rattle.gm_image_text.specs.declared.heads.Version.TheVariants as version
use Rattle.gm_image_text.proofs.SoundFits.{sound_fits}
use Rattle.gm_image_text.proofs.laws.sound_images_have_texts.Goals as goal

pub returns : goal.returns
returns c = λ p s r. record { version = version.Two; fits = sound_fits p r s; spelled = refl }
