-- One more batch.
use Rattle.std.proofs.Common.{◌≡◌, ◌∙◌, ◌++◌, ◌∷◌, [], replicate, ap, arith}
use Rattle.gm_core.proofs.RowReads.{replicate-more}
use Rattle.gm_core.proofs.effects.no_messages.Goals as goal

pub loop-worker-preserved : goal.loop-worker-preserved
loop-worker-preserved c = replicate-more c.loop-worker.worker [] c.loop-worker.batches.items c.push.new.self.items c.loop-worker.invariant (c.in_ok-push.ensures.items ∙ ap (λ x. c.loop-worker.batches.items ++ x ∷ []) c.empty.ensures)

pub returns : goal.returns
returns c = c.loop-worker.invariant ∙ ap (λ n. replicate n []) (let e : c.loop-worker.worker ≡ c.args.workers = omega arith in e)
