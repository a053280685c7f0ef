use Rattle.gm_store.proofs.Reversing.{write-back, undone-append, Reversible-write, Reversible-trans}
use Rattle.gm_store.proofs.laws.logged_writes_are_reversible.Goals as goal

pub returns-clause-back : goal.returns-clause-back
returns-clause-back c = write-back

pub returns-clause-order : goal.returns-clause-order
returns-clause-order c = undone-append

pub returns-clause-write : goal.returns-clause-write
returns-clause-write c = λ old new slot v logged. Reversible-write old new slot v logged.store logged.undo logged.shape

pub returns-clause-joined : goal.returns-clause-joined
returns-clause-joined c = Reversible-trans
