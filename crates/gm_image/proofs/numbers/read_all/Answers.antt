use Rattle.gm_image.proofs.Reading.{reads_none, reads_on, reads_all}
use Rattle.gm_image.proofs.numbers.read_all.Goals as goal

pub returns : goal.returns
returns g c = reads_all g.T.Numbered.ranged c.args.items.now c.loop-item.item-index c.loop-item.invariant c.loop-item-test.false

pub loop-item-init : goal.loop-item-init
loop-item-init g c = reads_none g.T.Numbered.ranged c.args.items.now

pub loop-item-preserved : goal.loop-item-preserved
loop-item-preserved g c = reads_on g.T.Numbered.ranged c.args.items.now c.loop-item.item-index c.item-item.result c.loop-item.invariant c.loop-item-test.true c.item-item.is c.read_numbers.ensures
