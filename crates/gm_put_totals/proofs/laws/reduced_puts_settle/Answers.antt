-- The reduced value is the total of all.
use Rattle.gm_put_totals.proofs.PutLemmas.{reduced-settles, begins-with}
use Rattle.gm_put_totals.proofs.laws.reduced_puts_settle.Goals as goal

pub returns : goal.returns
returns c = λ place r slot t values all. reduced-settles c.reductions_are_monoids.ensures.unit place r slot t values (begins-with t values all)
