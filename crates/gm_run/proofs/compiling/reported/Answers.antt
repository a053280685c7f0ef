use Rattle.std.proofs.Common.{sym}
use Rattle.std.proofs.lemmas.List.{append-nil}
use Rattle.gm_run.proofs.compiling.reported.Goals as goal

pub returns-then-watched-clause-text : goal.returns-then-watched-clause-text
returns-then-watched-clause-text g c = rw c.if-watched.true c.with_reports.ensures.text

pub returns-else-watched-clause-text : goal.returns-else-watched-clause-text
returns-else-watched-clause-text g c = rw c.if-watched.false (sym (append-nil _))
