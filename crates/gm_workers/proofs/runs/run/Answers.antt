-- No run takes more supersteps than its bound, and its rows are those for which the image asks.
use Rattle.std.proofs.Common.{◌≤◌, refl, sym, subst}
use Rattle.gm_model.specs.declared.outcomes.RunEnd.{RunEnd}
use Rattle.gm_image.specs.declared.images.Image.{Image}
use Rattle.gm_image.specs.Views.{program}
use Rattle.gm_machine.specs.Asking.{IsServed}
use Rattle.gm_machine.specs.States.{most_supersteps}
use Rattle.gm_observe.specs.Audience.{to_all}
use Rattle.gm_observe.proofs.Telling.{up_to-start}
use Rattle.gm_machine.proofs.RunSteps.{part-on_err}
use Rattle.gm_machine.proofs.StateBounds.{supersteps-bounded}
use Rattle.gm_workers.proofs.runs.run.Goals as goal

pub run_to_end-requires-clause-served : goal.run_to_end-requires-clause-served
run_to_end-requires-clause-served g c = λ κs within.
    subst (λ (i : Image). IsServed (program i) c.args.graph.now c.in_ok-in_rows.in_rows) c.image.ensures.same c.in_ok-in_rows.ensures

pub returns-in_err-in_rows-clause-part : goal.returns-in_err-in_rows-clause-part
returns-in_err-in_rows-clause-part g c = part-on_err _ _ _ _ (to_all _ (up_to-start _ _ _ refl))

pub returns-clause-bounded : goal.returns-clause-bounded
returns-clause-bounded g c =
    subst (λ (e : RunEnd). e.supersteps ≤ most_supersteps (program c.args.image.now) c.args.turns) (sym c.in_ok-end.ensures.end)
    (supersteps-bounded (program c.args.image.now) c.args.graph.now c.args.args.now c.args.turns)
