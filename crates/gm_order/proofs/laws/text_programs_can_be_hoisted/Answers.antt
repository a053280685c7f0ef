use Rattle.gm_order.proofs.Ordered.{text-hoisted, text-throughout}
use Rattle.gm_order.proofs.laws.text_programs_can_be_hoisted.Goals as goal

pub returns-clause-hoisted : goal.returns-clause-hoisted
returns-clause-hoisted c = text-hoisted

pub returns-clause-throughout : goal.returns-clause-throughout
returns-clause-throughout c = text-throughout
