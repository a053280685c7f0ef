-- A law of parted programs.
use Rattle.gm_compilable.proofs.Items.{image-items}
use Rattle.gm_compilable.proofs.laws.parted_images_have_items.Goals as goal

pub returns : goal.returns
returns c = image-items
