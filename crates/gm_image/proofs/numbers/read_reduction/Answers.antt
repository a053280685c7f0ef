use Rattle.gm_image.specs.Views.{target}
use Rattle.gm_image.specs.Ranges.{TargetRanged}
use Rattle.gm_image.proofs.Reading.{all_seen}
use Rattle.gm_image.proofs.numbers.read_reduction.Goals as goal

pub returns : goal.returns
returns c = (c.read_index.ensures, all_seen target TargetRanged c.args.slots.now c.read_items.ensures)
