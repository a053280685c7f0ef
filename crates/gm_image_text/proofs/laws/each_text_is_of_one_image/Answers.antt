use Rattle.std.proofs.Common.{sym, ◌∙◌}
use Rattle.gm_image_text.proofs.Binds.{ok_is}
use Rattle.gm_image_text.proofs.Whole.{text_again}
use Rattle.gm_image_text.proofs.laws.each_text_is_of_one_image.Goals as goal

pub returns : goal.returns
returns c = λ p q text h k. ok_is p q (sym (text_again text p h) ∙ text_again text q k)
