-- Terms have the values of expressions.
use Rattle.gm_lowering.proofs.Terms.{terms-have-values, live-has-its-value}
use Rattle.gm_lowering.proofs.laws.terms_have_the_values_of_expressions.Goals as goal

pub returns-clause-terms : goal.returns-clause-terms
returns-clause-terms c = terms-have-values

pub returns-clause-live : goal.returns-clause-live
returns-clause-live c = live-has-its-value
