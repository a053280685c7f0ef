use Rattle.gm_image.proofs.Reading.{IsReading}
use Rattle.gm_image.proofs.numbers.read_all.Given as goal

abbrev pub invariant-loop-item : goal.invariant-loop-item
invariant-loop-item g l = IsReading g.T.Numbered.ranged l.items l.item-index
