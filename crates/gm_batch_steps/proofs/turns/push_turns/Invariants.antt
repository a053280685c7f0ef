-- The turns so far.
use Rattle.gm_batch_steps.proofs.TurnLists.{Pushed}
use Rattle.gm_batch_steps.proofs.turns.push_turns.Given as goal

abbrev pub invariant-loop-k : goal.invariant-loop-k
invariant-loop-k l = Pushed l.graph l.node l.source l.k l.fn.turns l.turns
