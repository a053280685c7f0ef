use Rattle.gm_parting.proofs.LeanPrograms.{lean-same, lean-ready}
use Rattle.gm_parting.proofs.laws.prepared_programs_are_dissected.Goals as goal

pub returns-clause-same : goal.returns-clause-same
returns-clause-same c = lean-same

pub returns-clause-ready : goal.returns-clause-ready
returns-clause-ready c = lean-ready
