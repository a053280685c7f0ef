use Rattle.std.proofs.Common.{◌∙◌, ap, set}
use Rattle.gm_columns.specs.Cells.{values_of}
use Rattle.gm_batch_steps.proofs.PartLaws.{part-more}
use Rattle.gm_batch_steps.proofs.parts.set_part.Goals as goal

pub loop-place-preserved : goal.loop-place-preserved
loop-place-preserved c =
    c.in_ok-set.ensures ∙ ap (λ l. set l c.loop-place.place c.get.result) c.loop-place.invariant
    ∙ part-more (values_of c.args.cells.now) (values_of c.args.part.now) c.args.from c.args.to c.loop-place.place c.get.result
    c.loop-place.auto.place c.loop-place-test.true c.requires.part c.requires.within (c.get.ensures c.get.result)
