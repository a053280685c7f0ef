-- The messages so far.
use Rattle.std.proofs.Common.{◌≡◌, ◌++◌, ℕ, take, length}
use Rattle.gm_core.specs.Cores.{for_worker}
use Rattle.gm_core.specs.CoreViews.{row_at}
use Rattle.gm_core.proofs.effects.deal.Given as goal

abbrev pub invariant-loop-i : goal.invariant-loop-i
invariant-loop-i l = record {
  wide : length l.outbox ≡ length l.fn.outbox;
  each : (to : ℕ) → row_at l.outbox to ≡ row_at l.fn.outbox to ++ for_worker l.owners to (take l.i l.messages);
}
