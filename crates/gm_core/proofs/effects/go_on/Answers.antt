-- The image that is lent is the setting's.
use Rattle.std.proofs.Common.{subst, sym}
use Rattle.gm_image.specs.Views.{program}
use Rattle.gm_image.specs.declared.images.Image.{Image}
use Rattle.gm_machine.specs.Asking.{IsServed}
use Rattle.gm_core.proofs.effects.go_on.Goals as goal

pub master_run-requires-clause-served : goal.master_run-requires-clause-served
master_run-requires-clause-served c =
    let s = c.args.setting.now in
    subst (λ (i : Image). IsServed (program i) s.graph.now s.in_rows.now) (sym c.image-image.ensures.same) c.requires.served
