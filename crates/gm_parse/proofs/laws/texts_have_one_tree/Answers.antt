use Rattle.gm_parse.proofs.StatementPlans.{one_tree}
use Rattle.gm_parse.proofs.laws.texts_have_one_tree.Goals as goal

pub returns : goal.returns
returns c = one_tree
