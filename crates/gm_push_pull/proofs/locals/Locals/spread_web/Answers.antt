use Rattle.std.proofs.Common.{◌∙◌}
use Rattle.gm_push_pull.specs.Reads.{nothing}
use Rattle.gm_push_pull.proofs.Spreading.{spread-next}
use Rattle.gm_push_pull.proofs.locals.Locals.spread_web.Goals as goal

pub loop-seed-preserved : goal.loop-seed-preserved
loop-seed-preserved c =
    let i = c.loop-seed.invariant in
    let w = c.in_ok-wake.ensures in
    let d = c.in_ok-drain.ensures in
    record {
      iterator = d.iterator ∙ w.iterator ∙ i.iterator;
      known = λ x. d.known x ∙ w.known x ∙ i.known x;
      sound = spread-next c.args.self.now c.args.sites.now c.args.web.now c.deref-seed-items.result.now c.loop-seed.seed-index (record { site = 0; reads = nothing }) c.deref-seed-items.ensures.value c.loop-seed-test.true i.known i.sound w d;
    }

pub returns : goal.returns
returns c =
    let i = c.loop-seed.invariant in
    record { iterator = i.iterator; known = i.known; sound = λ t B C fits low sites. (i.sound t B C fits low sites).0 }
