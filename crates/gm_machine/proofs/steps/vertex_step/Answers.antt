-- The handlers of a sound image set no field.
use Rattle.gm_image.specs.Views.{program}
use Rattle.gm_machine.proofs.SoundHandlers.{sound-keeps}
use Rattle.gm_machine.proofs.steps.vertex_step.Goals as goal

pub step-requires-clause-keeps : goal.step-requires-clause-keeps
step-requires-clause-keeps c = sound-keeps (program c.image.result.now) c.image.ensures.sound c.args.block
