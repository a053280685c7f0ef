-- One more row.
use Rattle.std.proofs.Common.{◌≡◌, ◌∙◌, ◌++◌, ◌∷◌, [], replicate, ap, arith}
use Rattle.gm_core.proofs.RowReads.{replicate-more}
use Rattle.gm_core.proofs.messages.Outbox.empty.Goals as goal

pub loop-worker-preserved : goal.loop-worker-preserved
loop-worker-preserved c = replicate-more c.loop-worker.worker [] c.loop-worker.rows.items c.push.new.self.items c.loop-worker.invariant (c.in_ok-push.ensures.items ∙ ap (λ x. c.loop-worker.rows.items ++ x ∷ []) c.empty.ensures)

pub returns : goal.returns
returns c = c.loop-worker.invariant ∙ ap (λ n. replicate n []) (let e : c.loop-worker.worker ≡ c.args.workers = omega arith in e)
