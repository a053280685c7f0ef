use Rattle.gm_image.specs.Views.{line, handler}
use Rattle.gm_image.specs.Ranges.{LineRanged, HandlerRanged}
use Rattle.gm_image.proofs.Reading.{all_seen}
use Rattle.gm_image.proofs.numbers.BlockNumbered.read_numbers.Goals as goal

pub returns : goal.returns
returns c = (all_seen handler HandlerRanged c.args.self.now.handlers c.read_items.ensures, all_seen line LineRanged c.args.self.now.body c.read_items-2.ensures)
