-- Each operation on two values gives a value of its result's type.
use Rattle.gm_value.proofs.NumberLaws.{result2-typed}
use Rattle.gm_value.proofs.laws.operations_keep_types.Goals as goal

pub returns-clause-two : goal.returns-clause-two
returns-clause-two c = result2-typed
