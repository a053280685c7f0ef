use Rattle.std.proofs.Common.{ap, ◌∙◌}
use Rattle.std.specs.Option.{option_and_then}
use Rattle.gm_parse.specs.Grammar.{Range, rule}
use Rattle.gm_parse.specs.Factored.{factored}
use Rattle.gm_parse.specs.Choices.{range_word}
use Rattle.gm_parse.specs.Trees.{ReadsRange}
use Rattle.gm_parse.proofs.Paths.{at_exit, goes_first, goes_part, goes_then}
use Rattle.gm_parse.proofs.ChoiceLaws.{is_range}
use Rattle.gm_parse.proofs.expressions.owned_range.Goals as goal

pub returns-in_err-owner-clause-goes : goal.returns-in_err-owner-clause-goes
unfolding rule factored
returns-in_err-owner-clause-goes c = at_exit c.from_residual.result c.from_residual.ensures.1 (goes_part Range (goes_first c.in_err-owner.ensures.goes))

pub returns-in_err-dot-clause-goes : goal.returns-in_err-dot-clause-goes
unfolding rule factored
returns-in_err-dot-clause-goes c = at_exit c.from_residual-in_err-dot.result c.from_residual-in_err-dot.ensures.1 (goes_part Range (goes_then c.in_ok-owner.ensures.goes (goes_first c.in_err-dot.ensures.goes)))

pub returns-in_err-range-clause-goes : goal.returns-in_err-range-clause-goes
unfolding rule factored
returns-in_err-range-clause-goes c = at_exit c.from_residual-in_err-range.result c.from_residual-in_err-range.ensures.1 (goes_part Range (goes_then c.in_ok-owner.ensures.goes (goes_then c.in_ok-dot.ensures.goes ((c.in_err-range.ensures.goes _ (is_range c.range_word-found.ensures c.peek-word.ensures.word))))))

pub returns-clause-goes : goal.returns-clause-goes
unfolding rule factored
returns-clause-goes c = goes_part Range (goes_then c.in_ok-owner.ensures.goes (goes_then c.in_ok-dot.ensures.goes ((c.in_ok-range.ensures.goes _ (is_range c.range_word-found.ensures c.peek-word.ensures.word)))))

pub returns-clause-tree : goal.returns-clause-tree
unfolding rule factored
returns-clause-tree c = ReadsRange.range c.in_ok-owner.ensures.tree c.in_ok-dot.ensures.tree (c.in_ok-range.ensures.tree range_word (c.range_word-found.ensures ∙ ap (option_and_then range_word) c.peek-word.ensures.word))
