use Rattle.gm_parse.specs.Grammar.{Target, rule}
use Rattle.gm_parse.specs.Factored.{factored}
use Rattle.gm_parse.specs.Trees.{ReadsTarget}
use Rattle.gm_parse.proofs.Paths.{at_exit, goes_absent, goes_first, goes_part, goes_present, goes_then, sees_then}
use Rattle.gm_parse.proofs.statements.target_name.Goals as goal

pub returns-in_err-owner-clause-goes : goal.returns-in_err-owner-clause-goes
unfolding rule factored
returns-in_err-owner-clause-goes c = at_exit c.from_residual.result c.from_residual.ensures.1 (goes_part Target (goes_first c.in_err-owner.ensures.goes))

pub returns-then-not-next_is-clause-goes : goal.returns-then-not-next_is-clause-goes
unfolding rule factored
returns-then-not-next_is-clause-goes c = goes_part Target (goes_then c.in_ok-owner.ensures.goes (goes_absent (sees_then c.next_is.ensures c.if-not-next_is.true)))

pub returns-in_err-dot-clause-goes : goal.returns-in_err-dot-clause-goes
unfolding rule factored
returns-in_err-dot-clause-goes c = at_exit c.from_residual-in_err-dot.result c.from_residual-in_err-dot.ensures.1 (goes_part Target (goes_then c.in_ok-owner.ensures.goes (goes_present (sees_then c.next_is.ensures c.if-not-next_is.false) (goes_first c.in_err-dot.ensures.goes))))

pub returns-in_err-property-clause-goes : goal.returns-in_err-property-clause-goes
unfolding rule factored
returns-in_err-property-clause-goes c = at_exit c.from_residual-in_err-property.result c.from_residual-in_err-property.ensures.1 (goes_part Target (goes_then c.in_ok-owner.ensures.goes (goes_present (sees_then c.next_is.ensures c.if-not-next_is.false) (goes_then c.in_ok-dot.ensures.goes (c.in_err-property.ensures.goes)))))

pub returns-clause-goes : goal.returns-clause-goes
unfolding rule factored
returns-clause-goes c = goes_part Target (goes_then c.in_ok-owner.ensures.goes (goes_present (sees_then c.next_is.ensures c.if-not-next_is.false) (goes_then c.in_ok-dot.ensures.goes (c.in_ok-property.ensures.goes))))

pub returns-then-not-next_is-clause-tree : goal.returns-then-not-next_is-clause-tree
unfolding rule factored
returns-then-not-next_is-clause-tree c = ReadsTarget.name c.in_ok-owner.ensures.tree

pub returns-clause-tree : goal.returns-clause-tree
unfolding rule factored
returns-clause-tree c = ReadsTarget.property c.in_ok-owner.ensures.tree c.in_ok-dot.ensures.tree c.in_ok-property.ensures.tree
