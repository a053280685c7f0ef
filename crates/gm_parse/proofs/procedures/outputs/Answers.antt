use Rattle.gm_parse.specs.Grammar.{rule}
use Rattle.gm_parse.specs.Factored.{factored}
use Rattle.gm_parse.specs.Trees.{ReadsOutputs}
use Rattle.gm_parse.proofs.Paths.{at_exit, goes_absent, goes_first, goes_present, goes_then, sees_then}
use Rattle.gm_parse.proofs.procedures.outputs.Goals as goal
use Rattle.gm_parse.proofs.StatementLaws.{no_outputs}

pub returns-then-not-next_is-clause-goes : goal.returns-then-not-next_is-clause-goes
unfolding rule factored
returns-then-not-next_is-clause-goes c = goes_absent (sees_then c.next_is.ensures c.if-not-next_is.true)

pub returns-then-not-next_is-clause-tree : goal.returns-then-not-next_is-clause-tree
unfolding rule factored
returns-then-not-next_is-clause-tree c = no_outputs c.new-none.ensures.items

pub returns-in_err-semicolon-clause-goes : goal.returns-in_err-semicolon-clause-goes
unfolding rule factored
returns-in_err-semicolon-clause-goes c = at_exit c.from_residual.result c.from_residual.ensures.1 (goes_present (sees_then c.next_is.ensures c.if-not-next_is.false) (goes_first c.in_err-semicolon.ensures.goes))

pub returns-in_err-groups-clause-goes : goal.returns-in_err-groups-clause-goes
unfolding rule factored
returns-in_err-groups-clause-goes c = at_exit c.from_residual-in_err-groups.result c.from_residual-in_err-groups.ensures.1 (goes_present (sees_then c.next_is.ensures c.if-not-next_is.false) (goes_then c.in_ok-semicolon.ensures.goes (c.in_err-groups.ensures.goes)))

pub returns-clause-goes : goal.returns-clause-goes
unfolding rule factored
returns-clause-goes c = goes_present (sees_then c.next_is.ensures c.if-not-next_is.false) (goes_then c.in_ok-semicolon.ensures.goes (c.in_ok-groups.ensures.goes))

pub returns-clause-tree : goal.returns-clause-tree
unfolding rule factored
returns-clause-tree c = ReadsOutputs.present c.in_ok-semicolon.ensures.tree c.in_ok-groups.ensures.tree
