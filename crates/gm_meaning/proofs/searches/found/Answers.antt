use Rattle.gm_meaning.proofs.Levels.{are-levels}
use Rattle.gm_meaning.proofs.searches.found.Goals as goal

pub returns : goal.returns
returns c = are-levels c.args.graph.now c.args.root c.levels_from.result c.levels_from.ensures.level c.levels_from.ensures.lists
