use Rattle.gm_parting.proofs.FilterLaws.{same-saved, ready-saved, filters-saved, none-saved}
use Rattle.gm_parting.proofs.laws.filters_go_to_a_property.Goals as goal

pub returns-clause-same : goal.returns-clause-same
returns-clause-same c = same-saved

pub returns-clause-ready : goal.returns-clause-ready
returns-clause-ready c = ready-saved

pub returns-clause-saved : goal.returns-clause-saved
returns-clause-saved c = filters-saved

pub returns-clause-none : goal.returns-clause-none
returns-clause-none c = none-saved
