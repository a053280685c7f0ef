-- A sound image asks duties.
use Rattle.std.proofs.Common.{sym, subst}
use Rattle.gm_image.specs.declared.images.Image.{Image}
use Rattle.gm_image.specs.Views.{program}
use Rattle.gm_machine.specs.Asking.{IsServed}
use Rattle.gm_machine.specs.Masters.{FitsGraph}
use Rattle.gm_machine.proofs.SoundHandlers.{sound-keeps}
use Rattle.gm_machine.proofs.node_steps.Duty.of.Goals as goal

pub returns-clause-is : goal.returns-clause-is
returns-clause-is c = record {
  columns = subst (λ (i : Image). FitsGraph i c.args.graph.now) (sym c.image.ensures.same) c.requires.columns;
  served = subst (λ (i : Image). IsServed (program i) c.args.graph.now c.args.in_rows.now) (sym c.image.ensures.same) c.requires.served;
  keeps = sound-keeps (program c.image.result.now) c.image.ensures.sound c.args.block;
}
