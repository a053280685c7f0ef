use Rattle.std.proofs.Common.{◌∙◌}
use Rattle.gm_loader.proofs.Counting.{not_exceeding}
use Rattle.gm_loader.proofs.counts.NodeCount.exceeds.Goals as goal

pub returns-else-self : goal.returns-else-self
returns-else-self c = λ numbers h. c.if-self.false ∙ not_exceeding c.args.most numbers c.args.self.now c.if-self.false h
