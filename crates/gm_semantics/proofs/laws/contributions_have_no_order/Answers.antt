-- The laws of contributions.
use Rattle.gm_semantics.proofs.LeastLaws.{least-same}
use Rattle.gm_semantics.proofs.ContributionLaws.{settled_store-same, total_faults-same}
use Rattle.gm_semantics.proofs.laws.contributions_have_no_order.Goals as goal

pub returns-clause-faults : goal.returns-clause-faults
returns-clause-faults c = λ fs gs same. least-same same

pub returns-clause-settling : goal.returns-clause-settling
returns-clause-settling c = λ s cs ds one same. settled_store-same s one same

pub returns-clause-totals : goal.returns-clause-totals
returns-clause-totals c = λ s cs ds one same. total_faults-same s one same
