use Rattle.gm_forms.proofs.ConditionTotals.{conditions-fault}
use Rattle.gm_forms.proofs.laws.totals_of_conditions_fit.Goals as goal

pub returns : goal.returns
returns c = conditions-fault
