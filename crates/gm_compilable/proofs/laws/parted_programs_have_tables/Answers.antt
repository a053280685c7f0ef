-- Laws of parted programs.
use Rattle.gm_compilable.proofs.Tables.{has-table, has-no-edges}
use Rattle.gm_compilable.proofs.laws.parted_programs_have_tables.Goals as goal

pub returns-clause-tables : goal.returns-clause-tables
returns-clause-tables c = has-table

pub returns-clause-outputs : goal.returns-clause-outputs
returns-clause-outputs c = has-no-edges
