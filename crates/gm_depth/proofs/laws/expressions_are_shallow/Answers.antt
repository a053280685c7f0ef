-- Expressions are shallow.
use Rattle.gm_depth.proofs.Shallow.{trees-shallow, programs-shallow}
use Rattle.gm_depth.proofs.laws.expressions_are_shallow.Goals as goal

pub returns-clause-trees : goal.returns-clause-trees
returns-clause-trees c = trees-shallow

pub returns-clause-programs : goal.returns-clause-programs
returns-clause-programs c = programs-shallow
