use Rattle.gm_token.specs.Tokens.{words_of}
use Rattle.gm_parse.specs.Grammar.{the}
use Rattle.gm_parse.proofs.Paths.{at_exit}
use Rattle.gm_parse.proofs.reading.eat.Goals as goal

pub returns-in_err-after-clause-goes : goal.returns-in_err-after-clause-goes
returns-in_err-after-clause-goes c = at_exit c.from_residual.result c.from_residual.ensures.1 c.in_err-after.ensures.goes

pub returns-clause-goes : goal.returns-clause-goes
returns-clause-goes c = c.in_ok-after.ensures.goes

pub returns-clause-tree : goal.returns-clause-tree
returns-clause-tree c = rw c.place_at.ensures c.in_ok-after.ensures.tree
