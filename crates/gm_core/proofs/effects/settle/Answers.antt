-- The image is the sound one.
use Rattle.std.proofs.Common.{◌∙◌, ap, length}
use Rattle.gm_machine.specs.Taking.{settled}
use Rattle.gm_image.specs.declared.images.Image.{Image}
use Rattle.gm_core.proofs.effects.settle.Goals as goal

pub returns : goal.returns
returns c = c.in_ok-fault.ensures ∙ ap (λ (im : Image). settled (length im.places) c.args.puts.now c.args.globals.now.items) c.image-image.ensures.same
