use Rattle.std.proofs.Common.{true}
use Rattle.gm_input.proofs.Parting.{is_parted, no_mark_left}
use Rattle.gm_input.proofs.laws.texts_are_parted.Goals as goal

pub returns-clause-together : goal.returns-clause-together
returns-clause-together c = is_parted true

pub returns-clause-first : goal.returns-clause-first
returns-clause-first c = no_mark_left true
