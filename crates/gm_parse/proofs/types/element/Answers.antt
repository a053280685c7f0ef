use Rattle.std.proofs.Common.{is_some, refl, sym, ap, ◌∙◌}
use Rattle.std.specs.Option.{option_and_then}
use Rattle.gm_parse.specs.Grammar.{rule}
use Rattle.gm_parse.specs.Factored.{factored}
use Rattle.gm_parse.specs.Choices.{element_type}
use Rattle.gm_parse.specs.Trees.{ReadsType}
use Rattle.gm_parse.proofs.Paths.{at_exit, goes_first, goes_left, goes_right, goes_then}
use Rattle.gm_parse.proofs.ChoiceLaws.{is_element, sees_chosen}
use Rattle.gm_parse.proofs.TypeLaws.{as_type}
use Rattle.gm_parse.proofs.NestingLaws.{no_property}
use Rattle.gm_parse.proofs.types.element.Goals as goal

pub returns-in_default-clause-goes : goal.returns-in_default-clause-goes
unfolding rule factored
returns-in_default-clause-goes c = goes_right (sees_chosen _ (is_element c.element_type-found.ensures c.peek-word.ensures.word) (ap is_some c.in_default.is)) (no_property c.requires)

pub returns-in_err-base-clause-goes : goal.returns-in_err-base-clause-goes
unfolding rule factored
returns-in_err-base-clause-goes c = at_exit c.from_residual.result c.from_residual.ensures.1 (goes_left (sees_chosen _ (is_element (sym c.in-Some.is ∙ c.element_type-found.ensures) c.peek-word.ensures.word) refl) (goes_first (c.in_err-base.ensures.goes _ (is_element (sym c.in-Some.is ∙ c.element_type-found.ensures) c.peek-word.ensures.word))))

pub returns-in_err-graph-clause-goes : goal.returns-in_err-graph-clause-goes
unfolding rule factored
returns-in_err-graph-clause-goes c = at_exit c.from_residual-in_err-graph.result c.from_residual-in_err-graph.ensures.1 (goes_left (sees_chosen _ (is_element (sym c.in-Some.is ∙ c.element_type-found.ensures) c.peek-word.ensures.word) refl) (goes_then (c.in_ok-base.ensures.goes _ (is_element (sym c.in-Some.is ∙ c.element_type-found.ensures) c.peek-word.ensures.word)) (c.in_err-graph.ensures.goes)))

pub returns-clause-goes : goal.returns-clause-goes
unfolding rule factored
returns-clause-goes c = goes_left (sees_chosen _ (is_element (sym c.in-Some.is ∙ c.element_type-found.ensures) c.peek-word.ensures.word) refl) (goes_then (c.in_ok-base.ensures.goes _ (is_element (sym c.in-Some.is ∙ c.element_type-found.ensures) c.peek-word.ensures.word)) (c.in_ok-graph.ensures.goes))

pub returns-clause-tree : goal.returns-clause-tree
unfolding rule factored
returns-clause-tree c = as_type c.new-layers.ensures.items (ReadsType.element (c.in_ok-base.ensures.tree element_type (sym c.in-Some.is ∙ c.element_type-found.ensures ∙ ap (option_and_then element_type) c.peek-word.ensures.word)) c.in_ok-graph.ensures.tree)
