-- Stores stay typed.
use Rattle.gm_forms.specs.Typing.{type_in}
use Rattle.gm_typed_stores.proofs.Expressions.{is-type, value-gives}
use Rattle.gm_typed_stores.proofs.Bodies.{does-keeps}
use Rattle.gm_typed_stores.proofs.Phases.{parallel-keeps, sequential-keeps}
use Rattle.gm_typed_stores.proofs.Inputs.{asked-fits}
use Rattle.gm_typed_stores.proofs.Points.{points-typed}
use Rattle.gm_typed_stores.proofs.Outcomes.{first-typed, fits-below, run-typed}
use Rattle.gm_typed_stores.proofs.laws.stores_stay_typed.Goals as goal

pub returns-clause-first : goal.returns-clause-first
returns-clause-first c = first-typed

pub returns-clause-asked : goal.returns-clause-asked
returns-clause-asked c = asked-fits

pub returns-clause-fitting : goal.returns-clause-fitting
returns-clause-fitting c = fits-below

pub returns-clause-expressions : goal.returns-clause-expressions
returns-clause-expressions c = λ table its w t e h k. value-gives table e its w t h (is-type t (type_in table.declarations e) k.typed) k.named k.tells

pub returns-clause-bodies : goal.returns-clause-bodies
returns-clause-bodies c = λ table its result loop m s it l k h. does-keeps table s its result m loop it l k.typed k.named k.tells h

pub returns-clause-loops : goal.returns-clause-loops
returns-clause-loops c = λ table its result loop key test body ks s l takes low k b h. parallel-keeps table its result loop key test body ks s l takes low k.typed k.named k.tells b.typed b.named b.tells h

pub returns-clause-statements : goal.returns-clause-statements
returns-clause-statements c = λ table its result run s state graph same k h. sequential-keeps table result run graph same s its state k.typed k.named k.tells h

pub returns-clause-runs : goal.returns-clause-runs
returns-clause-runs c = run-typed

pub returns-clause-points : goal.returns-clause-points
returns-clause-points c = points-typed
