-- Laws of parted programs.
use Rattle.gm_compilable.proofs.Tables.{has-parameters, has-names}
use Rattle.gm_compilable.proofs.laws.parted_programs_have_parameters.Goals as goal

pub returns-clause-parameters : goal.returns-clause-parameters
returns-clause-parameters c = has-parameters

pub returns-clause-names : goal.returns-clause-names
returns-clause-names c = has-names
