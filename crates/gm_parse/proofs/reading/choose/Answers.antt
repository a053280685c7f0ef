use Rattle.std.proofs.Common.{◌∙◌, sym, refl, true, false, arith}
use Rattle.gm_parse.proofs.Paths.{goes_found, goes_not_found, goes_past, reads_found}
use Rattle.gm_parse.proofs.reading.choose.Goals as goal

pub returns-in_default-clause-goes : goal.returns-in_default-clause-goes
returns-in_default-clause-goes g c = λ x s. goes_not_found x c.args.around c.args.tokens.now c.args.at c.args.found c.in_default.is s

pub returns-then-at-len-clause-goes : goal.returns-then-at-len-clause-goes
returns-then-at-len-clause-goes g c = λ x s. goes_past x c.args.around c.args.tokens.now c.args.at c.args.found (omega arith) s

pub returns-then-is_too_deep-clause-goes : goal.returns-then-is_too_deep-clause-goes
returns-then-is_too_deep-clause-goes g c = λ x s. goes_found x c.args.around c.args.tokens.now c.args.at true c.args.found c.in-Some.value (omega arith) c.in-Some.is s (sym c.is_too_deep.ensures ∙ c.if-is_too_deep.true)

pub returns-else-is_too_deep-clause-goes : goal.returns-else-is_too_deep-clause-goes
returns-else-is_too_deep-clause-goes g c = λ x s. goes_found x c.args.around c.args.tokens.now c.args.at false c.args.found c.in-Some.value (omega arith) c.in-Some.is s (sym c.is_too_deep.ensures ∙ c.if-is_too_deep.false)

pub returns-else-is_too_deep-clause-tree : goal.returns-else-is_too_deep-clause-tree
returns-else-is_too_deep-clause-tree g c = λ meaning h. rw c.place_at-place.ensures (reads_found meaning c.args.tokens.now c.args.at c.args.found c.in-Some.value (omega arith) c.in-Some.is h)
