use Rattle.gm_order.proofs.Spelled.{text-spelled}
use Rattle.gm_order.proofs.laws.text_programs_are_spelled.Goals as goal

pub returns : goal.returns
returns c = text-spelled
