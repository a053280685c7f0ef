-- Few Ifs stand within one another.
use Rattle.gm_depth.proofs.Shallow.{trees-nest-little, programs-nest-little}
use Rattle.gm_depth.proofs.laws.ifs_nest_little.Goals as goal

pub returns-clause-trees : goal.returns-clause-trees
returns-clause-trees c = trees-nest-little

pub returns-clause-programs : goal.returns-clause-programs
returns-clause-programs c = programs-nest-little
