use Rattle.std.proofs.Common.{refl}
use Rattle.gm_image_text.specs.declared.heads.Version.TheVariants as version
use Rattle.gm_image_text.proofs.Versions.{fits_in_two}
use Rattle.gm_image_text.proofs.laws.each_text_has_one_in_version_two.Goals as goal

pub returns : goal.returns
returns c = λ p text h. record { version = version.Two; fits = fits_in_two h.version p h.fits; spelled = refl }
