use Rattle.gm_order.proofs.Spelled.{text-ascends}
use Rattle.gm_order.proofs.laws.places_of_texts_ascend.Goals as goal

pub returns : goal.returns
returns c = text-ascends
