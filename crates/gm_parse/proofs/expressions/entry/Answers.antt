use Rattle.gm_parse.specs.Grammar.{InExpression}
use Rattle.gm_parse.proofs.Paths.{at_exit, goes_within}
use Rattle.gm_parse.proofs.TreeLaws.{as_around}
use Rattle.gm_parse.proofs.expressions.entry.Goals as goal

pub returns-in_err-value-clause-goes : goal.returns-in_err-value-clause-goes
returns-in_err-value-clause-goes c = at_exit c.from_residual.result c.from_residual.ensures.1 (goes_within InExpression (as_around c.in_expression-within.ensures c.in_err-value.ensures.goes (λ a r h. h)))

pub returns-clause-goes : goal.returns-clause-goes
returns-clause-goes c = goes_within InExpression (as_around c.in_expression-within.ensures c.in_ok-value.ensures.goes (λ a r h. h))
