use Rattle.std.proofs.Common.{refl, sym, ap, ◌∙◌, arith}
use Rattle.std.specs.Option.{option_and_then}
use Rattle.gm_token.specs.Tokens.{words_of}
use Rattle.gm_parse.specs.Grammar.{Of, TypeName, rule}
use Rattle.gm_parse.specs.Factored.{factored}
use Rattle.gm_parse.specs.Choices.{bearer_word}
use Rattle.gm_parse.specs.Nesting.{ReadsOpenings}
use Rattle.gm_parse.proofs.Paths.{goes_first, goes_nowhere, goes_then}
use Rattle.gm_parse.proofs.ChoiceLaws.{is_bearer, sees_choice}
use Rattle.gm_parse.proofs.NestingLaws.{at_fault, opened_none, encloses_more, encloses_fault, length_on}
use Rattle.gm_parse.proofs.types.openings.Goals as goal

pub opening-init : goal.opening-init
unfolding rule factored
opening-init c = opened_none c.new-bearers.ensures.items

pub returns-in_err-opened-clause-fault : goal.returns-in_err-opened-clause-fault
unfolding rule factored
returns-in_err-opened-clause-fault c = at_fault c.from_residual.result c.from_residual.ensures.1 (encloses_fault c.opening.invariant.goes (sees_choice (is_bearer (sym c.in-Some.is ∙ c.bearer_word.ensures) c.peek.ensures.word) refl) (goes_first (c.in_err-opened.ensures.goes _ (is_bearer (sym c.in-Some.is ∙ c.bearer_word.ensures) c.peek.ensures.word))))

pub returns-in_err-start-clause-fault : goal.returns-in_err-start-clause-fault
unfolding rule factored
returns-in_err-start-clause-fault c = at_fault c.from_residual-in_err-start.result c.from_residual-in_err-start.ensures.1 (encloses_fault c.opening.invariant.goes (sees_choice (is_bearer (sym c.in-Some.is ∙ c.bearer_word.ensures) c.peek.ensures.word) refl) (goes_then (c.in_ok-opened.ensures.goes _ (is_bearer (sym c.in-Some.is ∙ c.bearer_word.ensures) c.peek.ensures.word)) (goes_first c.in_err-start.ensures.goes)))

pub returns-in_err-push-clause-fault : goal.returns-in_err-push-clause-fault
unfolding rule factored
returns-in_err-push-clause-fault c = at_fault c.from_residual-in_err-push.result c.from_residual-in_err-push.ensures.1 (goes_nowhere (Of TypeName) c.args.around (words_of c.args.tokens.now) c.args.at)

pub opening-preserved : goal.opening-preserved
unfolding rule factored
opening-preserved c = record {
  goes = encloses_more (length_on _ _ c.in_ok-push.ensures.items) c.opening.invariant.goes (sees_choice (is_bearer (sym c.in-Some.is ∙ c.bearer_word.ensures) c.peek.ensures.word) refl) (c.in_ok-opened.ensures.goes _ (is_bearer (sym c.in-Some.is ∙ c.bearer_word.ensures) c.peek.ensures.word)) c.in_ok-start.ensures.goes;
  tree = ReadsOpenings.more c.opening.invariant.tree (c.in_ok-opened.ensures.tree bearer_word (sym c.in-Some.is ∙ c.bearer_word.ensures ∙ ap (option_and_then bearer_word) c.peek.ensures.word)) c.in_ok-start.ensures.tree c.in_ok-push.ensures.items;
  begun = omega (arith, c.in_ok-opened.ensures.next.0, c.in_ok-start.ensures.next.0, c.opening.invariant.begun);
}
