use Rattle.std.proofs.Common.{◌∙◌, None, ap, arith, length, replicate, sym}
use Rattle.gm_batch_handlers.proofs.StoreLaws.{length-both, replicated-more}
use Rattle.gm_batch_handlers.proofs.handlers.no_totals.Goals as goal

pub slots-preserved : goal.slots-preserved
slots-preserved c = (
  c.in_ok-push.ensures.items ∙ replicated-more c.slots.totals.items c.slots.invariant.0 ∙ ap (λ l. replicate (length l) None) (sym c.in_ok-push.ensures.items),
  omega (arith, ap length c.in_ok-push.ensures.items, length-both c.slots.totals.items None, c.slots-test.true, c.len.ensures, c.slots.totals.ok),
)

pub returns : goal.returns
returns c =
    c.slots.invariant.0 ∙ ap (λ n. replicate n None) (omega (arith, c.slots-test.false, c.slots.invariant.1, c.len.ensures, c.slots.totals.ok))
