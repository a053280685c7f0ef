-- Programs of plain loops run.
use Rattle.gm_lowering_master.proofs.Plain.{plain-loops-go, plain-programs-run}
use Rattle.gm_lowering_master.proofs.laws.plain_programs_run.Goals as goal

pub returns-clause-loops : goal.returns-clause-loops
returns-clause-loops c = plain-loops-go

pub returns-clause-runs : goal.returns-clause-runs
returns-clause-runs c = plain-programs-run
