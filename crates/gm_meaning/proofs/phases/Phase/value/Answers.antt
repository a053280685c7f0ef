use Rattle.std.proofs.Common.{◌∙◌, ap}
use Rattle.gm_ast.specs.Tree.{expr_of}
use Rattle.gm_semantics.specs.Expressions.{View, value}
use Rattle.gm_meaning.proofs.phases.Phase.value.Goals as goal

pub returns : goal.returns
returns c = c.value.ensures ∙ ap (λ (w : View). value (expr_of c.args.e.now) w) (c.sight.ensures.seen c.args.self.now.going.store c.args.self.now.turns)
