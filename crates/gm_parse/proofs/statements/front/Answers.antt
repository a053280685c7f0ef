use Rattle.gm_parse.specs.Grammar.{SearchHead, rule}
use Rattle.gm_parse.specs.Factored.{factored}
use Rattle.gm_parse.specs.Trees.{ReadsSearch}
use Rattle.gm_parse.proofs.Paths.{at_exit, goes_first, goes_part, goes_then}
use Rattle.gm_parse.proofs.statements.front.Goals as goal

pub returns-in_err-open-clause-goes : goal.returns-in_err-open-clause-goes
unfolding rule factored
returns-in_err-open-clause-goes c = at_exit c.from_residual.result c.from_residual.ensures.1 (goes_part SearchHead (goes_first c.in_err-open.ensures.goes))

pub returns-in_err-iterator-clause-goes : goal.returns-in_err-iterator-clause-goes
unfolding rule factored
returns-in_err-iterator-clause-goes c = at_exit c.from_residual-in_err-iterator.result c.from_residual-in_err-iterator.ensures.1 (goes_part SearchHead (goes_then c.in_ok-open.ensures.goes (goes_first c.in_err-iterator.ensures.goes)))

pub returns-in_err-colon-clause-goes : goal.returns-in_err-colon-clause-goes
unfolding rule factored
returns-in_err-colon-clause-goes c = at_exit c.from_residual-in_err-colon.result c.from_residual-in_err-colon.ensures.1 (goes_part SearchHead (goes_then c.in_ok-open.ensures.goes (goes_then c.in_ok-iterator.ensures.goes (goes_first c.in_err-colon.ensures.goes))))

pub returns-in_err-graph-clause-goes : goal.returns-in_err-graph-clause-goes
unfolding rule factored
returns-in_err-graph-clause-goes c = at_exit c.from_residual-in_err-graph.result c.from_residual-in_err-graph.ensures.1 (goes_part SearchHead (goes_then c.in_ok-open.ensures.goes (goes_then c.in_ok-iterator.ensures.goes (goes_then c.in_ok-colon.ensures.goes (goes_first c.in_err-graph.ensures.goes)))))

pub returns-in_err-dot-clause-goes : goal.returns-in_err-dot-clause-goes
unfolding rule factored
returns-in_err-dot-clause-goes c = at_exit c.from_residual-in_err-dot.result c.from_residual-in_err-dot.ensures.1 (goes_part SearchHead (goes_then c.in_ok-open.ensures.goes (goes_then c.in_ok-iterator.ensures.goes (goes_then c.in_ok-colon.ensures.goes (goes_then c.in_ok-graph.ensures.goes (goes_first c.in_err-dot.ensures.goes))))))

pub returns-in_err-nodes-clause-goes : goal.returns-in_err-nodes-clause-goes
unfolding rule factored
returns-in_err-nodes-clause-goes c = at_exit c.from_residual-in_err-nodes.result c.from_residual-in_err-nodes.ensures.1 (goes_part SearchHead (goes_then c.in_ok-open.ensures.goes (goes_then c.in_ok-iterator.ensures.goes (goes_then c.in_ok-colon.ensures.goes (goes_then c.in_ok-graph.ensures.goes (goes_then c.in_ok-dot.ensures.goes (goes_first c.in_err-nodes.ensures.goes)))))))

pub returns-in_err-from-clause-goes : goal.returns-in_err-from-clause-goes
unfolding rule factored
returns-in_err-from-clause-goes c = at_exit c.from_residual-in_err-from.result c.from_residual-in_err-from.ensures.1 (goes_part SearchHead (goes_then c.in_ok-open.ensures.goes (goes_then c.in_ok-iterator.ensures.goes (goes_then c.in_ok-colon.ensures.goes (goes_then c.in_ok-graph.ensures.goes (goes_then c.in_ok-dot.ensures.goes (goes_then c.in_ok-nodes.ensures.goes (goes_first c.in_err-from.ensures.goes))))))))

pub returns-in_err-root-clause-goes : goal.returns-in_err-root-clause-goes
unfolding rule factored
returns-in_err-root-clause-goes c = at_exit c.from_residual-in_err-root.result c.from_residual-in_err-root.ensures.1 (goes_part SearchHead (goes_then c.in_ok-open.ensures.goes (goes_then c.in_ok-iterator.ensures.goes (goes_then c.in_ok-colon.ensures.goes (goes_then c.in_ok-graph.ensures.goes (goes_then c.in_ok-dot.ensures.goes (goes_then c.in_ok-nodes.ensures.goes (goes_then c.in_ok-from.ensures.goes (goes_first c.in_err-root.ensures.goes)))))))))

pub returns-in_err-close-clause-goes : goal.returns-in_err-close-clause-goes
unfolding rule factored
returns-in_err-close-clause-goes c = at_exit c.from_residual-in_err-close.result c.from_residual-in_err-close.ensures.1 (goes_part SearchHead (goes_then c.in_ok-open.ensures.goes (goes_then c.in_ok-iterator.ensures.goes (goes_then c.in_ok-colon.ensures.goes (goes_then c.in_ok-graph.ensures.goes (goes_then c.in_ok-dot.ensures.goes (goes_then c.in_ok-nodes.ensures.goes (goes_then c.in_ok-from.ensures.goes (goes_then c.in_ok-root.ensures.goes (goes_first c.in_err-close.ensures.goes))))))))))

pub returns-in_err-test-clause-goes : goal.returns-in_err-test-clause-goes
unfolding rule factored
returns-in_err-test-clause-goes c = at_exit c.from_residual-in_err-test.result c.from_residual-in_err-test.ensures.1 (goes_part SearchHead (goes_then c.in_ok-open.ensures.goes (goes_then c.in_ok-iterator.ensures.goes (goes_then c.in_ok-colon.ensures.goes (goes_then c.in_ok-graph.ensures.goes (goes_then c.in_ok-dot.ensures.goes (goes_then c.in_ok-nodes.ensures.goes (goes_then c.in_ok-from.ensures.goes (goes_then c.in_ok-root.ensures.goes (goes_then c.in_ok-close.ensures.goes (c.in_err-test.ensures.goes)))))))))))

pub returns-clause-goes : goal.returns-clause-goes
unfolding rule factored
returns-clause-goes c = goes_part SearchHead (goes_then c.in_ok-open.ensures.goes (goes_then c.in_ok-iterator.ensures.goes (goes_then c.in_ok-colon.ensures.goes (goes_then c.in_ok-graph.ensures.goes (goes_then c.in_ok-dot.ensures.goes (goes_then c.in_ok-nodes.ensures.goes (goes_then c.in_ok-from.ensures.goes (goes_then c.in_ok-root.ensures.goes (goes_then c.in_ok-close.ensures.goes (c.in_ok-test.ensures.goes))))))))))

pub returns-clause-tree : goal.returns-clause-tree
unfolding rule factored
returns-clause-tree c = ReadsSearch.front c.in_ok-open.ensures.tree c.in_ok-iterator.ensures.tree c.in_ok-colon.ensures.tree c.in_ok-graph.ensures.tree c.in_ok-dot.ensures.tree c.in_ok-nodes.ensures.tree c.in_ok-from.ensures.tree c.in_ok-root.ensures.tree c.in_ok-close.ensures.tree c.in_ok-test.ensures.tree
