use Rattle.gm_order.proofs.Ordered.{text-ordered}
use Rattle.gm_order.proofs.laws.text_programs_are_ordered.Goals as goal

pub returns : goal.returns
returns c = text-ordered
