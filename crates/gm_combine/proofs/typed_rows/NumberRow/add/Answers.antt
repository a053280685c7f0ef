-- The row of a reduction takes numbers.
use Rattle.gm_combine.proofs.typed_rows.NumberRow.add.Goals as goal

pub returns-in-Least-clause-holds : goal.returns-in-Least-clause-holds
returns-in-Least-clause-holds g c = λ count are. c.add_all.ensures.holds count (rw c.in-Least.is at are)

pub returns-in-Greatest-clause-holds : goal.returns-in-Greatest-clause-holds
returns-in-Greatest-clause-holds g c = λ count are. c.add_all-in-Greatest.ensures.holds count (rw c.in-Greatest.is at are)

pub returns-in-Sums-clause-holds : goal.returns-in-Sums-clause-holds
returns-in-Sums-clause-holds g c = λ count are. c.add_all-in-Sums.ensures.holds count (rw c.in-Sums.is at are)

pub returns-in-Products-clause-holds : goal.returns-in-Products-clause-holds
returns-in-Products-clause-holds g c = λ count are. c.add_all-in-Products.ensures.holds count (rw c.in-Products.is at are)
