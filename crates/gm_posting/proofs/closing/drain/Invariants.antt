use Rattle.gm_posting.specs.Rows.{Drains}
use Rattle.gm_posting.proofs.closing.drain.Given as goal

abbrev pub invariant-loop : goal.invariant-loop
invariant-loop g l = Drains l.own l.fn.zero l.zero l.fn.late.items l.late.items
