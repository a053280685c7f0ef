use Rattle.gm_parting.proofs.Prepared.{prepared-same, prepared-ready, is-prepared}
use Rattle.gm_parting.proofs.laws.programs_can_be_prepared.Goals as goal

pub returns-clause-same : goal.returns-clause-same
returns-clause-same c = prepared-same

pub returns-clause-ready : goal.returns-clause-ready
returns-clause-ready c = prepared-ready

pub returns-clause-prepared : goal.returns-clause-prepared
returns-clause-prepared c = is-prepared
