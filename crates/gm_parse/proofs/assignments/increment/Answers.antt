use Rattle.gm_parse.specs.Trees.{ReadsStmt}
use Rattle.gm_parse.proofs.Paths.{at_exit, goes_first, goes_then}
use Rattle.gm_parse.proofs.assignments.increment.Goals as goal

pub returns-in_err-place-clause-goes : goal.returns-in_err-place-clause-goes
returns-in_err-place-clause-goes c = at_exit c.from_residual.result c.from_residual.ensures.1 (goes_first c.in_err-place.ensures.goes)

pub returns-in_err-last-clause-goes : goal.returns-in_err-last-clause-goes
returns-in_err-last-clause-goes c = at_exit c.from_residual-in_err-last.result c.from_residual-in_err-last.ensures.1 (goes_then c.in_ok-place.ensures.goes (c.in_err-last.ensures.goes))

pub returns-clause-goes : goal.returns-clause-goes
returns-clause-goes c = goes_then c.in_ok-place.ensures.goes (c.in_ok-last.ensures.goes)

pub returns-clause-tree : goal.returns-clause-tree
returns-clause-tree c = λ us t r. ReadsStmt.increment r c.in_ok-place.ensures.tree c.in_ok-last.ensures.tree
