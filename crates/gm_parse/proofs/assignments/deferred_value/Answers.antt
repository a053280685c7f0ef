use Rattle.gm_parse.specs.Trees.{ReadsStmt}
use Rattle.gm_parse.proofs.Paths.{at_exit, goes_first, goes_then}
use Rattle.gm_parse.proofs.assignments.deferred_value.Goals as goal

pub returns-in_err-arrow-clause-goes : goal.returns-in_err-arrow-clause-goes
returns-in_err-arrow-clause-goes c = at_exit c.from_residual.result c.from_residual.ensures.1 (goes_first c.in_err-arrow.ensures.goes)

pub returns-in_err-value-clause-goes : goal.returns-in_err-value-clause-goes
returns-in_err-value-clause-goes c = at_exit c.from_residual-in_err-value.result c.from_residual-in_err-value.ensures.1 (goes_then c.in_ok-arrow.ensures.goes (goes_first c.in_err-value.ensures.goes))

pub returns-in_err-iterator-clause-goes : goal.returns-in_err-iterator-clause-goes
returns-in_err-iterator-clause-goes c = at_exit c.from_residual-in_err-iterator.result c.from_residual-in_err-iterator.ensures.1 (goes_then c.in_ok-arrow.ensures.goes (goes_then c.in_ok-value.ensures.goes (goes_first c.in_err-iterator.ensures.goes)))

pub returns-in_err-last-clause-goes : goal.returns-in_err-last-clause-goes
returns-in_err-last-clause-goes c = at_exit c.from_residual-in_err-last.result c.from_residual-in_err-last.ensures.1 (goes_then c.in_ok-arrow.ensures.goes (goes_then c.in_ok-value.ensures.goes (goes_then c.in_ok-iterator.ensures.goes (c.in_err-last.ensures.goes))))

pub returns-clause-goes : goal.returns-clause-goes
returns-clause-goes c = goes_then c.in_ok-arrow.ensures.goes (goes_then c.in_ok-value.ensures.goes (goes_then c.in_ok-iterator.ensures.goes (c.in_ok-last.ensures.goes)))

pub returns-clause-tree : goal.returns-clause-tree
returns-clause-tree c = λ us t r. ReadsStmt.defer r c.in_ok-arrow.ensures.tree c.in_ok-value.ensures.tree c.in_ok-iterator.ensures.tree c.in_ok-last.ensures.tree
