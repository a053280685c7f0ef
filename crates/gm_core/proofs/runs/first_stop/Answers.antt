-- The master list runs from its start.
use Rattle.std.proofs.Common.{◌≡◌, ◌∙◌, ◌-◌, ap, arith, subst, sym}
use Rattle.gm_image.specs.Views.{program}
use Rattle.gm_image.specs.declared.images.Image.{Image}
use Rattle.gm_machine.specs.Asking.{IsServed}
use Rattle.gm_machine.specs.Machine.{pause, start_control}
use Rattle.gm_machine.specs.Masters.{control_of}
use Rattle.gm_core.proofs.CoreChanges.{pause-starts}
use Rattle.gm_core.proofs.runs.first_stop.Goals as goal

pub master_run-next-requires-clause-bounded : goal.master_run-next-requires-clause-bounded
master_run-next-requires-clause-bounded c =
    let master = c.in_ok-master.master in
    let none : master.turns ≡ 0 = ap (λ d. d.turns) c.in_ok-master.ensures.control in
    omega (arith, none)

pub master_run-next-requires-clause-served : goal.master_run-next-requires-clause-served
master_run-next-requires-clause-served c =
    let s = c.args.setting.now in
    subst (λ (i : Image). IsServed (program i) s.graph.now s.in_rows.now) (sym c.image-image.ensures.same) c.requires.served

pub returns-clause-next : goal.returns-clause-next
returns-clause-next c =
    let g = c.args.setting.now.graph.now in
    let im = c.image-image.result.now in
    let master = c.in_ok-master.master in
    let none : master.turns ≡ 0 = ap (λ d. d.turns) c.in_ok-master.ensures.control in
    let left : master.bound - master.turns ≡ c.args.turns = omega (arith, none, c.in_ok-master.ensures.bound) in
    c.master_run-next.ensures.run
    ∙ pause-starts (program im) g c.args.args.now c.args.turns (master.bound - master.turns) master.line (control_of master) left c.in_ok-master.ensures.line c.in_ok-master.ensures.control
    ∙ ap (λ (i : Image). pause (program i) g c.args.turns 0 (start_control (program i) c.args.args.now)) c.image-image.ensures.same
