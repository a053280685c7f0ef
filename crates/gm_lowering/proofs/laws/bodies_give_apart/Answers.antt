-- Bodies give apart.
use Rattle.gm_lowering.proofs.Made.{loops-give-apart, turns-give-apart}
use Rattle.gm_lowering.proofs.SentBehind.{loops-send-behind}
use Rattle.gm_lowering.proofs.laws.bodies_give_apart.Goals as goal

pub returns-clause-loops : goal.returns-clause-loops
returns-clause-loops c = loops-give-apart

pub returns-clause-turns : goal.returns-clause-turns
returns-clause-turns c = turns-give-apart

pub returns-clause-behind : goal.returns-clause-behind
returns-clause-behind c = loops-send-behind
