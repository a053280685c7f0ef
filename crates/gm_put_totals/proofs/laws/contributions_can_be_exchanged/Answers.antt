-- Contributions that settle as others may be exchanged for them anywhere.
use Rattle.gm_put_totals.proofs.SettlingLemmas.{settles-itself, settles-permuted, settles-through, settles-together, settles-each, settles-alone}
use Rattle.gm_put_totals.proofs.laws.contributions_can_be_exchanged.Goals as goal

pub returns-clause-itself : goal.returns-clause-itself
returns-clause-itself g c = settles-itself

pub returns-clause-through : goal.returns-clause-through
returns-clause-through g c = settles-through

pub returns-clause-together : goal.returns-clause-together
returns-clause-together g c = settles-together

pub returns-clause-each : goal.returns-clause-each
returns-clause-each g c = λ some other members each. settles-each some other members each

pub returns-clause-alone : goal.returns-clause-alone
returns-clause-alone g c = settles-alone

pub returns-clause-order : goal.returns-clause-order
returns-clause-order g c = λ some other same. settles-permuted same
