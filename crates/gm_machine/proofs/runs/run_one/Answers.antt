-- No handler of a sound image sets a field, and no run takes more supersteps than its bound.
use Rattle.std.proofs.Common.{◌≤◌, sym, subst}
use Rattle.gm_model.specs.declared.outcomes.RunEnd.{RunEnd}
use Rattle.gm_image.specs.declared.images.Image.{Image}
use Rattle.gm_image.specs.Views.{program}
use Rattle.gm_machine.specs.States.{most_supersteps}
use Rattle.gm_machine.proofs.SoundHandlers.{sound-keeps}
use Rattle.gm_machine.proofs.StateBounds.{supersteps-bounded}
use Rattle.gm_machine.proofs.runs.run_one.Goals as goal

pub run-requires-clause-keeps : goal.run-requires-clause-keeps
run-requires-clause-keeps c = sound-keeps (program c.image-plain.result.now) c.image-plain.ensures.sound

pub returns-clause-bounded : goal.returns-clause-bounded
returns-clause-bounded c =
    subst (λ (i : Image). c.in_ok-end.end.supersteps ≤ most_supersteps (program i) c.args.turns) c.image-plain.ensures.same
    (subst (λ (e : RunEnd). e.supersteps ≤ most_supersteps (program c.image-plain.result.now) c.args.turns) (sym c.in_ok-end.ensures.end)
    (supersteps-bounded (program c.image-plain.result.now) c.args.graph.now c.args.args.now c.args.turns))
