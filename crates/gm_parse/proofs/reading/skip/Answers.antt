use Rattle.std.proofs.Common.{arith, ◌∙◌, sym, refl, Some, None}
use Rattle.gm_token.specs.Tokens.{words_of}
use Rattle.gm_parse.specs.Terminals.{The, AnyName}
use Rattle.gm_parse.specs.Grammar.{Token, a_name}
use Rattle.gm_parse.proofs.Paths.{goes_word, goes_too_deep, goes_other, goes_nowhere, reads_word, reads_name, at_exit}
use Rattle.gm_parse.proofs.reading.skip.Goals as goal

pub returns-in_default-clause-goes : goal.returns-in_default-clause-goes
returns-in_default-clause-goes c = goes_other (Token (The c.args.wanted)) c.args.around (words_of c.args.tokens.now) c.args.at None (sym c.peek.ensures.word ∙ c.in_default.is) refl refl

pub returns-then-not-is-clause-goes : goal.returns-then-not-is-clause-goes
returns-then-not-is-clause-goes c = goes_other (Token (The c.args.wanted)) c.args.around (words_of c.args.tokens.now) c.args.at (Some c.in-Some.word) (sym c.peek.ensures.word ∙ c.in-Some.is) refl (sym c.is.ensures ∙ c.if-not-is.true)

pub returns-then-is_too_deep-clause-goes : goal.returns-then-is_too_deep-clause-goes
returns-then-is_too_deep-clause-goes c = goes_too_deep (The c.args.wanted) c.args.around (words_of c.args.tokens.now) c.args.at c.in-Some.word (sym c.peek.ensures.word ∙ c.in-Some.is) (sym c.is.ensures ∙ c.if-not-is.false) (sym c.is_too_deep.ensures ∙ c.if-is_too_deep.true)

pub returns-else-is_too_deep-clause-goes : goal.returns-else-is_too_deep-clause-goes
returns-else-is_too_deep-clause-goes c = goes_word (The c.args.wanted) c.args.around (words_of c.args.tokens.now) c.args.at c.in-Some.word (sym c.peek.ensures.word ∙ c.in-Some.is) (sym c.is.ensures ∙ c.if-not-is.false) (sym c.is_too_deep.ensures ∙ c.if-is_too_deep.false)

pub returns-else-is_too_deep-clause-tree : goal.returns-else-is_too_deep-clause-tree
returns-else-is_too_deep-clause-tree c = (reads_word c.args.tokens.now c.args.at c.in-Some.word (sym c.peek.ensures.word ∙ c.in-Some.is) (The c.args.wanted) (sym c.is.ensures ∙ c.if-not-is.false))

pub overflow_add-result : goal.overflow_add-result
overflow_add-result c = let h = rw c.in-Some.is at c.peek.ensures.there in omega (arith, h.1)
