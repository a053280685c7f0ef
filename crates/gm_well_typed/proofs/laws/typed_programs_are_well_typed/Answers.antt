-- Typed programs are well typed.
use Rattle.gm_well_typed.proofs.Procedures.{typed-tells-values, typed-well-typed, outcomes-typed}
use Rattle.gm_well_typed.proofs.laws.typed_programs_are_well_typed.Goals as goal

pub returns-clause-tells : goal.returns-clause-tells
returns-clause-tells c = typed-tells-values

pub returns-clause-well_typed : goal.returns-clause-well_typed
returns-clause-well_typed c = typed-well-typed

pub returns-clause-outcomes : goal.returns-clause-outcomes
returns-clause-outcomes c = outcomes-typed
