use Rattle.gm_loops.proofs.goings.Going.deed_of.Goals as goal

pub returns-then-len-eq1-2-clause-own : goal.returns-then-len-eq1-2-clause-own
returns-then-len-eq1-2-clause-own c = c.gives.ensures.own c.args.node
