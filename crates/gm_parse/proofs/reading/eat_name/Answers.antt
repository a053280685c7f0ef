use Rattle.std.proofs.Common.{◌≡◌, ℕ, List, ◌++◌, ap, arith, ◌∙◌, sym, refl, Some, None}
use Rattle.gm_token.specs.Tokens.{words_of}
use Rattle.gm_parse.specs.Terminals.{The, AnyName}
use Rattle.gm_parse.specs.Grammar.{Token, a_name}
use Rattle.gm_parse.proofs.Paths.{goes_word, goes_too_deep, goes_other, goes_nowhere, reads_word, reads_name, at_exit}
use Rattle.gm_parse.proofs.reading.eat_name.Goals as goal

pub returns-in_default-clause-goes : goal.returns-in_default-clause-goes
returns-in_default-clause-goes c = goes_other (Token (AnyName)) c.args.around (words_of c.args.tokens.now) c.args.at None (sym c.peek.ensures.word ∙ c.in_default.is) refl refl

pub returns-then-not-is_name-clause-goes : goal.returns-then-not-is_name-clause-goes
returns-then-not-is_name-clause-goes c = goes_other (Token (AnyName)) c.args.around (words_of c.args.tokens.now) c.args.at (Some c.in-Some.word) (sym c.peek.ensures.word ∙ c.in-Some.is) refl (sym c.is_name.ensures ∙ c.if-not-is_name.true)

pub returns-then-is_too_deep-clause-goes : goal.returns-then-is_too_deep-clause-goes
returns-then-is_too_deep-clause-goes c = goes_too_deep (AnyName) c.args.around (words_of c.args.tokens.now) c.args.at c.in-Some.word (sym c.peek.ensures.word ∙ c.in-Some.is) (sym c.is_name.ensures ∙ c.if-not-is_name.false) (sym c.is_too_deep.ensures ∙ c.if-is_too_deep.true)

pub returns-in_err-extend_from_slice-clause-goes : goal.returns-in_err-extend_from_slice-clause-goes
returns-in_err-extend_from_slice-clause-goes c = at_exit c.from_residual.result c.from_residual.ensures.1 (goes_nowhere a_name c.args.around (words_of c.args.tokens.now) c.args.at)

pub returns-clause-goes : goal.returns-clause-goes
returns-clause-goes c = goes_word (AnyName) c.args.around (words_of c.args.tokens.now) c.args.at c.in-Some.word (sym c.peek.ensures.word ∙ c.in-Some.is) (sym c.is_name.ensures ∙ c.if-not-is_name.false) (sym c.is_too_deep.ensures ∙ c.if-is_too_deep.false)

pub returns-clause-tree : goal.returns-clause-tree
returns-clause-tree c =
    let same : c.extend_from_slice.new.self.items ≡ c.text.result.now = c.in_ok-extend_from_slice.ensures.items ∙ ap (λ (x : List ℕ). x ++ c.text.result.now) c.new-text.ensures.items in
    reads_name c.args.tokens.now c.args.at c.in-Some.word (sym c.peek.ensures.word ∙ c.in-Some.is) c.extend_from_slice.new.self.items c.place_at-place.result (sym c.is_name.ensures ∙ c.if-not-is_name.false)
    (c.text.ensures ∙ ap (λ (x : List ℕ). Some x) (sym same)) c.place_at-place.ensures

pub overflow_add-result : goal.overflow_add-result
overflow_add-result c = let h = rw c.in-Some.is at c.peek.ensures.there in omega (arith, h.1)
