-- The laws of loops.
use Rattle.gm_semantics.proofs.OrderLaws.{loop_done-same, inner_done-same}
use Rattle.gm_semantics.proofs.laws.loops_have_no_order.Goals as goal

pub returns-clause-outer : goal.returns-clause-outer
returns-clause-outer c = λ s f ks js same one home. loop_done-same f s ks js same one home

pub returns-clause-inner : goal.returns-clause-inner
returns-clause-inner c = λ it turns other same one. inner_done-same it turns other same one
