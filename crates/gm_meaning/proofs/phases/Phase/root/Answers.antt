use Rattle.std.proofs.Common.{◌∙◌, ap}
use Rattle.gm_semantics.specs.Expressions.{View, node_of}
use Rattle.gm_meaning.proofs.phases.Phase.root.Goals as goal

pub returns-clause-root : goal.returns-clause-root
returns-clause-root c = c.node_of.ensures.node ∙ ap (λ (w : View). node_of w c.args.search.now.root c.args.search.now.place) (c.sight.ensures.seen c.args.self.now.going.store c.args.self.now.turns)
