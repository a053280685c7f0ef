-- One more row.
use Rattle.std.proofs.Common.{◌≡◌, ◌∙◌, ◌++◌, ◌∷◌, [], replicate, ap, arith}
use Rattle.gm_core.proofs.RowReads.{replicate-more}
use Rattle.gm_core.proofs.effects.nothing_unsent.Goals as goal

pub loop-worker-preserved : goal.loop-worker-preserved
loop-worker-preserved c = replicate-more c.loop-worker.worker (replicate c.args.workers []) c.loop-worker.outboxes.items c.push.new.self.items c.loop-worker.invariant (c.in_ok-push.ensures.items ∙ ap (λ x. c.loop-worker.outboxes.items ++ x ∷ []) c.in_ok-row.ensures)

pub returns : goal.returns
returns c = c.loop-worker.invariant ∙ ap (λ n. replicate n (replicate c.args.workers [])) (let e : c.loop-worker.worker ≡ c.args.workers = omega arith in e)
