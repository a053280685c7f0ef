use Rattle.gm_parting.proofs.DeclaredFacts.{all-declared}
use Rattle.gm_parting.proofs.DeclaredLaws.{same-declared, ready-declared}
use Rattle.gm_parting.proofs.laws.locals_are_declared.Goals as goal

pub returns-clause-same : goal.returns-clause-same
returns-clause-same c = same-declared

pub returns-clause-ready : goal.returns-clause-ready
returns-clause-ready c = ready-declared

pub returns-clause-declared : goal.returns-clause-declared
returns-clause-declared c = all-declared
