-- Conditions go to locals.
use Rattle.gm_dissect.proofs.SavedConditions.{ready-saved, same-saved, saved-conditions}
use Rattle.gm_dissect.proofs.laws.conditions_go_to_locals.Goals as goal

pub returns-clause-same : goal.returns-clause-same
returns-clause-same c = same-saved

pub returns-clause-ready : goal.returns-clause-ready
returns-clause-ready c = ready-saved

pub returns-clause-saved : goal.returns-clause-saved
returns-clause-saved c = saved-conditions
