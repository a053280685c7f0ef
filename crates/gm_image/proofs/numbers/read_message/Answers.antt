use Rattle.gm_image.specs.Views.{term}
use Rattle.gm_image.specs.Ranges.{InRange}
use Rattle.gm_image.proofs.Reading.{all_seen}
use Rattle.gm_image.proofs.numbers.read_message.Goals as goal

pub returns : goal.returns
returns c = (c.read_index.ensures, c.read_numbers.ensures, all_seen term InRange c.args.values.now c.read_items.ensures)
