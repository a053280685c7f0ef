-- The laws of taking.
use Rattle.gm_value.proofs.TakingLaws.{taken-same, taken-bags, taken-nothing, taken-parts, taken-cut, taken-bound}
use Rattle.gm_value.proofs.RekeyingLaws.{rekeyed}
use Rattle.gm_value.proofs.laws.taking_goes_by_ranks.Goals as goal

pub returns-clause-ranks : goal.returns-clause-ranks
returns-clause-ranks g c = taken-same

pub returns-clause-bags : goal.returns-clause-bags
returns-clause-bags g c = taken-bags

pub returns-clause-nothing : goal.returns-clause-nothing
returns-clause-nothing g c = taken-nothing

pub returns-clause-parts : goal.returns-clause-parts
returns-clause-parts g c = taken-parts

pub returns-clause-up_to : goal.returns-clause-up_to
returns-clause-up_to g c = taken-cut

pub returns-clause-bound : goal.returns-clause-bound
returns-clause-bound g c = taken-bound

pub returns-clause-rekeyed : goal.returns-clause-rekeyed
returns-clause-rekeyed g c = λ rank new close p f cs keys. rekeyed rank new close p f cs keys.is keys.below keys.above keys.up
