-- What a release leaves.
use Rattle.std.proofs.Common.{◌∙◌, ◌-◌, refl, ap}
use Rattle.gm_image.specs.Views.{program}
use Rattle.gm_machine.specs.Masters.{control_of}
use Rattle.gm_machine.specs.States.{pause_after}
use Rattle.gm_machine.specs.Taking.{Settled}
use Rattle.gm_core.specs.CoreViews.{row_at, core_of}
use Rattle.gm_core.proofs.CoreChanges.{releases-is}
use Rattle.gm_core.proofs.effects.release.Goals as goal

pub returns-clause-core : goal.returns-clause-core
returns-clause-core c =
    let old = c.args.core.now in
    let p = program c.args.setting.now.image.now in
    let g = c.args.setting.now.graph.now in
    let put : Settled = record { values = c.settle.new.globals.items; fault = c.in_ok-put.put } in
    releases-is p g c.args.setting.now.owners.now c.args.setting.now.workers (old.master.bound - old.master.turns) old.master.line (control_of old.master) (core_of old) _ put
    c.in_ok-put.ensures
    (c.go_on-next.ensures.next ∙ ap (pause_after p g (old.master.bound - old.master.turns) old.master.line (record (control_of old.master) { globals = put.values })) c.lesser-fault.ensures)
    refl
    (ap (λ v. row_at v.items) c.replace-came.ensures.value)
    c.in_ok-supersteps.ensures
    c.in_ok-messages.ensures
    c.in_ok-round.ensures.computed
    c.in_ok-round.ensures.puts
    c.in_ok-round.ensures.fault
    c.in_ok-round.ensures.sent
    c.in_ok-round.ensures.mail
    c.in_ok-round.ensures.arrived
