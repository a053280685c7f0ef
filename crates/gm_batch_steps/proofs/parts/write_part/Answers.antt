use Rattle.std.proofs.Common.{◌∙◌, ap, set}
use Rattle.gm_batch_steps.proofs.PartLaws.{part-more}
use Rattle.gm_batch_steps.proofs.parts.write_part.Goals as goal

pub loop-place-preserved : goal.loop-place-preserved
loop-place-preserved g c =
    ap (λ l. set l c.loop-place.place c.index-part-place.result) c.loop-place.invariant
    ∙ part-more c.args.cells.now.items c.args.part.now c.args.from c.args.to c.loop-place.place c.index-part-place.result
    c.loop-place.auto.place c.loop-place-test.true c.requires.part c.requires.within c.index-part-place.is
