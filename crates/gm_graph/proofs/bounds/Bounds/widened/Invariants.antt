use Rattle.std.proofs.Common.{take}
use Rattle.gm_graph.specs.Numberings.{IsWidened}
use Rattle.gm_graph.proofs.bounds.Bounds.widened.Given as goal

abbrev pub invariant-loop-place : goal.invariant-loop-place
invariant-loop-place l = IsWidened l.fn.self (take l.place l.numbers) l.bounds
