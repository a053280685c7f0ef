use Rattle.gm_image.specs.Views.{line}
use Rattle.gm_image.specs.Ranges.{LineRanged}
use Rattle.gm_image.proofs.Reading.{all_seen}
use Rattle.gm_image.proofs.numbers.HandlerNumbered.read_numbers.Goals as goal

pub returns : goal.returns
returns c = (c.read_index.ensures, all_seen line LineRanged c.args.self.now.lines c.read_items.ensures)
