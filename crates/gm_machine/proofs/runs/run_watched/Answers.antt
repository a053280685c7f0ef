-- No handler of a sound image sets a field, and no run takes more supersteps than its bound.
use Rattle.std.proofs.Common.{◌≤◌, ap, refl, sym, subst}
use Rattle.gm_model.specs.declared.outcomes.RunEnd.{RunEnd}
use Rattle.gm_image.specs.declared.images.Image.{Image}
use Rattle.gm_image.specs.Views.{program}
use Rattle.gm_machine.specs.States.{most_supersteps}
use Rattle.gm_machine.proofs.SoundHandlers.{sound-keeps}
use Rattle.gm_machine.proofs.StateBounds.{supersteps-bounded}
use Rattle.gm_machine.proofs.RunSteps.{part-of_same, part-on_err, told-of_same}
use Rattle.gm_observe.specs.Audience.{to_all}
use Rattle.gm_observe.proofs.Telling.{up_to-start}
use Rattle.gm_machine.proofs.runs.run_watched.Goals as goal

pub run-requires-clause-keeps : goal.run-requires-clause-keeps
run-requires-clause-keeps g c = sound-keeps (program c.image-plain.result.now) c.image-plain.ensures.sound

pub returns-clause-bounded : goal.returns-clause-bounded
returns-clause-bounded g c =
    subst (λ (i : Image). c.in_ok-end.end.supersteps ≤ most_supersteps (program i) c.args.turns) c.image-plain.ensures.same
    (subst (λ (e : RunEnd). e.supersteps ≤ most_supersteps (program c.image-plain.result.now) c.args.turns) (sym c.in_ok-end.ensures.end)
    (supersteps-bounded (program c.image-plain.result.now) c.args.graph.now c.args.args.now c.args.turns))

pub returns-in_err-in_rows-clause-part : goal.returns-in_err-in_rows-clause-part
returns-in_err-in_rows-clause-part g c = part-on_err _ _ _ _ (to_all _ (up_to-start _ _ _ refl))

pub returns-in_err-end-clause-part : goal.returns-in_err-end-clause-part
returns-in_err-end-clause-part g c =
    part-on_err _ _ _ _
    (part-of_same (program c.image-plain.result.now) (program c.args.image.now) c.args.graph.now c.args.args.now c.args.turns _ _ (ap program c.image-plain.ensures.same) c.in_err-end.ensures.part)

pub returns-clause-told : goal.returns-clause-told
returns-clause-told g c =
    told-of_same (program c.image-plain.result.now) (program c.args.image.now) c.args.graph.now c.args.args.now c.args.turns _ _ (ap program c.image-plain.ensures.same) c.in_ok-end.ensures.told
