use Rattle.std.proofs.Common.{List, ap, ◌∙◌, arith}
use Rattle.gm_token.specs.Tokens.{words_of}
use Rattle.gm_parse.specs.Grammar.{Parameters, Of, Maybe, rule}
use Rattle.gm_parse.specs.Factored.{factored}
use Rattle.gm_parse.specs.Trees.{ReadsGroups, ReadsParameters}
use Rattle.gm_parse.proofs.Paths.{at_exit, goes_absent, goes_first, goes_more, goes_more_first, goes_nowhere, goes_part, goes_present, goes_stop, goes_then, sees_then}
use Rattle.gm_parse.proofs.procedures.parameters.Goals as goal
use Rattle.gm_ast.specs.declared.surface.SpelledGroup.{SpelledGroup}
use Rattle.std.proofs.Common.{◌++◌, ◌∷◌, []}
use Rattle.gm_parse.proofs.StatementLaws.{sees_parameters, as_groups, as_groups_on, no_parameters}

pub returns-then-not-next_is_name-clause-goes : goal.returns-then-not-next_is_name-clause-goes
unfolding rule factored
returns-then-not-next_is_name-clause-goes c = goes_absent (sees_parameters c.next_is_name.ensures c.if-not-next_is_name.true)

pub returns-then-not-next_is_name-clause-tree : goal.returns-then-not-next_is_name-clause-tree
unfolding rule factored
returns-then-not-next_is_name-clause-tree c = no_parameters c.new-groups.ensures.items

pub returns-in_err-first-clause-goes : goal.returns-in_err-first-clause-goes
unfolding rule factored
returns-in_err-first-clause-goes c = at_exit c.from_residual.result c.from_residual.ensures.1 (goes_present (sees_parameters c.next_is_name.ensures c.if-not-next_is_name.false) (goes_part Parameters (goes_first c.in_err-first.ensures.goes)))

pub returns-in_err-push-clause-goes : goal.returns-in_err-push-clause-goes
unfolding rule factored
returns-in_err-push-clause-goes c = at_exit c.from_residual-in_err-push.result c.from_residual-in_err-push.ensures.1 (goes_nowhere (Maybe (Of Parameters)) c.args.around (words_of c.args.tokens.now) c.args.at)

pub row-init : goal.row-init
unfolding rule factored
row-init c = record { goes = λ r h. goes_then c.in_ok-first.ensures.goes h; trees = as_groups (c.in_ok-push.ensures.items ∙ ap (λ (xs : List SpelledGroup). xs ++ c.in_ok-first.first ∷ []) c.new-groups.ensures.items) (ReadsGroups.one c.in_ok-first.ensures.tree); begun = c.in_ok-first.ensures.next.0; in_text = c.in_ok-first.ensures.next.1; shallow = c.in_ok-first.ensures.next.2 }

pub returns-in_err-comma-clause-goes : goal.returns-in_err-comma-clause-goes
unfolding rule factored
returns-in_err-comma-clause-goes c = at_exit c.from_residual-in_err-comma.result c.from_residual-in_err-comma.ensures.1 (goes_present (sees_parameters c.next_is_name.ensures c.if-not-next_is_name.false) (goes_part Parameters (c.row.invariant.goes _ (goes_more_first (sees_then c.next_is.ensures c.row-test.true) (goes_first c.in_err-comma.ensures.goes)))))

pub returns-in_err-one-clause-goes : goal.returns-in_err-one-clause-goes
unfolding rule factored
returns-in_err-one-clause-goes c = at_exit c.from_residual-in_err-one.result c.from_residual-in_err-one.ensures.1 (goes_present (sees_parameters c.next_is_name.ensures c.if-not-next_is_name.false) (goes_part Parameters (c.row.invariant.goes _ (goes_more_first (sees_then c.next_is.ensures c.row-test.true) (goes_then c.in_ok-comma.ensures.goes c.in_err-one.ensures.goes)))))

pub returns-in_err-push-2-clause-goes : goal.returns-in_err-push-2-clause-goes
unfolding rule factored
returns-in_err-push-2-clause-goes c = at_exit c.from_residual-in_err-push-2.result c.from_residual-in_err-push-2.ensures.1 (goes_nowhere (Maybe (Of Parameters)) c.args.around (words_of c.args.tokens.now) c.args.at)

pub row-preserved : goal.row-preserved
unfolding rule factored
row-preserved c = record { goes = λ r h. c.row.invariant.goes r (goes_more (sees_then c.next_is.ensures c.row-test.true) (goes_then c.in_ok-comma.ensures.goes c.in_ok-one.ensures.goes) h); trees = as_groups_on _ _ c.in_ok-push-2.ensures.items (ReadsGroups.more c.row.invariant.trees c.in_ok-comma.ensures.tree c.in_ok-one.ensures.tree); begun = omega (arith, c.in_ok-comma.ensures.next.0, c.in_ok-one.ensures.next.0, c.row.invariant.begun); in_text = c.in_ok-one.ensures.next.1; shallow = c.row.invariant.shallow }

pub returns-clause-goes : goal.returns-clause-goes
unfolding rule factored
returns-clause-goes c = goes_present (sees_parameters c.next_is_name.ensures c.if-not-next_is_name.false) (goes_part Parameters (c.row.invariant.goes _ (goes_stop (sees_then c.next_is.ensures c.row-test.false))))

pub returns-clause-tree : goal.returns-clause-tree
unfolding rule factored
returns-clause-tree c = ReadsParameters.present c.row.invariant.trees
