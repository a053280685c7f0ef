use Rattle.gm_parting.proofs.SavedPrograms.{conditions-saved, all-prepared}
use Rattle.gm_parting.proofs.laws.saved_conditions_leave_programs_prepared.Goals as goal

pub returns-clause-repeatable : goal.returns-clause-repeatable
returns-clause-repeatable c = conditions-saved

pub returns-clause-prepared : goal.returns-clause-prepared
returns-clause-prepared c = all-prepared
