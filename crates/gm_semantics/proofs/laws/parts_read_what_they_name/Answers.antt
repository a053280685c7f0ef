-- The frames of the parts of a program.
use Rattle.gm_semantics.proofs.ExpressionFrames.{evaluated-frame}
use Rattle.gm_semantics.proofs.BodyFrames.{does-alike}
use Rattle.gm_semantics.proofs.StatementFrames.{parallel-alike, sequential-alike}
use Rattle.gm_semantics.proofs.laws.parts_read_what_they_name.Goals as goal

pub returns-clause-expressions : goal.returns-clause-expressions
returns-clause-expressions c = λ k e w t b h. evaluated-frame k e w t b h

pub returns-clause-bodies : goal.returns-clause-bodies
returns-clause-bodies c = λ k s m loop a b n h. does-alike k s m loop a b n h

pub returns-clause-loops : goal.returns-clause-loops
returns-clause-loops c = λ k loop key test body ks s t b n h. parallel-alike k loop key test body ks s t b n h

pub returns-clause-statements : goal.returns-clause-statements
returns-clause-statements c = λ k s run a b n h. sequential-alike k s run a b n h
