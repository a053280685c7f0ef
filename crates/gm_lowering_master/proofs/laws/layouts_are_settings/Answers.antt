-- Layouts are settings.
use Rattle.gm_lowering_master.proofs.Ranks.{layouts-are-settings}
use Rattle.gm_lowering_master.proofs.laws.layouts_are_settings.Goals as goal

pub returns : goal.returns
returns c = layouts-are-settings
