use Rattle.std.proofs.Common.{is_some, refl, sym, ap, ◌∙◌}
use Rattle.std.specs.Option.{option_and_then}
use Rattle.gm_parse.specs.Grammar.{TypeName, rule}
use Rattle.gm_parse.specs.Factored.{factored}
use Rattle.gm_parse.specs.Choices.{bare_type}
use Rattle.gm_parse.specs.Trees.{ReadsType}
use Rattle.gm_parse.proofs.Paths.{at_exit, goes_left, goes_part, goes_right}
use Rattle.gm_parse.proofs.ChoiceLaws.{is_bare, sees_choice}
use Rattle.gm_parse.proofs.TypeLaws.{as_type}
use Rattle.gm_parse.proofs.types.innermost.Goals as goal

pub returns-in_err-longer-clause-goes : goal.returns-in_err-longer-clause-goes
unfolding rule factored
returns-in_err-longer-clause-goes c = at_exit c.from_residual.result c.from_residual.ensures.1 (goes_part TypeName (goes_right (sees_choice (is_bare c.bare_type-bare.ensures c.peek-word.ensures.word) (ap is_some c.in_default.is)) (c.in_err-longer.ensures.goes)))

pub returns-in_default-clause-goes : goal.returns-in_default-clause-goes
unfolding rule factored
returns-in_default-clause-goes c = goes_part TypeName (goes_right (sees_choice (is_bare c.bare_type-bare.ensures c.peek-word.ensures.word) (ap is_some c.in_default.is)) (c.in_ok-longer.ensures.goes))

pub returns-in_err-base-clause-goes : goal.returns-in_err-base-clause-goes
unfolding rule factored
returns-in_err-base-clause-goes c = at_exit c.from_residual-in_err-base.result c.from_residual-in_err-base.ensures.1 (goes_part TypeName (goes_left (sees_choice (is_bare (sym c.in-Some.is ∙ c.bare_type-bare.ensures) c.peek-word.ensures.word) refl) ((c.in_err-base.ensures.goes _ (is_bare (sym c.in-Some.is ∙ c.bare_type-bare.ensures) c.peek-word.ensures.word)))))

pub returns-clause-goes : goal.returns-clause-goes
unfolding rule factored
returns-clause-goes c = goes_part TypeName (goes_left (sees_choice (is_bare (sym c.in-Some.is ∙ c.bare_type-bare.ensures) c.peek-word.ensures.word) refl) ((c.in_ok-base.ensures.goes _ (is_bare (sym c.in-Some.is ∙ c.bare_type-bare.ensures) c.peek-word.ensures.word))))

pub returns-clause-tree : goal.returns-clause-tree
unfolding rule factored
returns-clause-tree c = as_type c.new-layers.ensures.items (ReadsType.bare (c.in_ok-base.ensures.tree bare_type (sym c.in-Some.is ∙ c.bare_type-bare.ensures ∙ ap (option_and_then bare_type) c.peek-word.ensures.word)))
