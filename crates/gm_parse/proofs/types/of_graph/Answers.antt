use Rattle.gm_parse.specs.Grammar.{OfGraph, rule}
use Rattle.gm_parse.specs.Factored.{factored}
use Rattle.gm_parse.specs.Trees.{ReadsOf}
use Rattle.gm_parse.proofs.Paths.{at_exit, goes_absent, goes_first, goes_part, goes_present, goes_then}
use Rattle.gm_parse.proofs.types.of_graph.Goals as goal
use Rattle.gm_parse.proofs.LevelLaws.{sees_of}

pub returns-then-not-next_is-clause-goes : goal.returns-then-not-next_is-clause-goes
unfolding rule factored
returns-then-not-next_is-clause-goes c = goes_absent (sees_of c.next_is.ensures c.if-not-next_is.true)

pub returns-then-not-next_is-clause-tree : goal.returns-then-not-next_is-clause-tree
unfolding rule factored
returns-then-not-next_is-clause-tree c = ReadsOf.absent

pub returns-in_err-open-clause-goes : goal.returns-in_err-open-clause-goes
unfolding rule factored
returns-in_err-open-clause-goes c = at_exit c.from_residual.result c.from_residual.ensures.1 (goes_present (sees_of c.next_is.ensures c.if-not-next_is.false) (goes_part OfGraph (goes_first c.in_err-open.ensures.goes)))

pub returns-in_err-graph-clause-goes : goal.returns-in_err-graph-clause-goes
unfolding rule factored
returns-in_err-graph-clause-goes c = at_exit c.from_residual-in_err-graph.result c.from_residual-in_err-graph.ensures.1 (goes_present (sees_of c.next_is.ensures c.if-not-next_is.false) (goes_part OfGraph (goes_then c.in_ok-open.ensures.goes (goes_first c.in_err-graph.ensures.goes))))

pub returns-in_err-close-clause-goes : goal.returns-in_err-close-clause-goes
unfolding rule factored
returns-in_err-close-clause-goes c = at_exit c.from_residual-in_err-close.result c.from_residual-in_err-close.ensures.1 (goes_present (sees_of c.next_is.ensures c.if-not-next_is.false) (goes_part OfGraph (goes_then c.in_ok-open.ensures.goes (goes_then c.in_ok-graph.ensures.goes (c.in_err-close.ensures.goes)))))

pub returns-clause-goes : goal.returns-clause-goes
unfolding rule factored
returns-clause-goes c = goes_present (sees_of c.next_is.ensures c.if-not-next_is.false) (goes_part OfGraph (goes_then c.in_ok-open.ensures.goes (goes_then c.in_ok-graph.ensures.goes (c.in_ok-close.ensures.goes))))

pub returns-clause-tree : goal.returns-clause-tree
unfolding rule factored
returns-clause-tree c = ReadsOf.present c.in_ok-open.ensures.tree c.in_ok-graph.ensures.tree c.in_ok-close.ensures.tree
