use Rattle.gm_image.specs.Views.{input, output, block, command}
use Rattle.gm_image.specs.Ranges.{InputRanged, OutputRanged, BlockRanged, CommandRanged}
use Rattle.gm_image.proofs.Reading.{all_seen}
use Rattle.gm_image.proofs.numbers.read_image_numbers.Goals as goal

pub returns : goal.returns
returns c =
    let image = c.args.image.now in
    record {
      inputs = all_seen input InputRanged image.inputs c.read_items.ensures;
      outputs = all_seen output OutputRanged image.outputs c.read_items-2.ensures;
      result = c.read_result.ensures;
      places = c.read_items-3.ensures;
      blocks = all_seen block BlockRanged image.blocks c.read_items-4.ensures;
      master = all_seen command CommandRanged image.master c.read_items-5.ensures;
    }
