use Rattle.std.proofs.Common.{true, sym, refl}
use Rattle.gm_image.specs.Views.{program, command}
use Rattle.gm_image.specs.Rows.{CommandRow}
use Rattle.gm_verify.proofs.Leasts.{least}
use Rattle.gm_verify.proofs.master.command_rule.Goals as goal

pub returns : goal.returns
returns c =
    least (program c.args.image.now) (CommandRow c.args.index (command c.args.master_line.now)) true true true true true true true true true true
    (sym c.if-not-command_keeps_range.ensures) (sym c.if-not-command_fits.ensures) (sym c.if-not-jumps_forward.ensures) (sym c.if-not-goes_back.ensures)
    (sym c.if-not-ends_last.ensures) refl (sym c.if-not-command_holds.ensures) refl refl refl
