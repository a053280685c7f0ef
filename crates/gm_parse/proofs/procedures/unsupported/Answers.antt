use Rattle.std.proofs.Common.{◌∙◌, sym, arith}
use Rattle.gm_parse.proofs.SupportLaws.{supported_more, supported_whole, unsupported_at}
use Rattle.gm_parse.proofs.procedures.unsupported.Goals as goal

pub row-init : goal.row-init
row-init c = λ k d lt. absurd (omega arith)

pub returns-in-Some-clause-found : goal.returns-in-Some-clause-found
returns-in-Some-clause-found c = unsupported_at c.args.tokens.now c.row.at c.word-word.result c.in-Some.rule c.place_at-place.result c.word-word.ensures (sym c.unsupported_rule.ensures ∙ c.in-Some.is) c.place_at-place.ensures c.row.invariant

pub row-preserved : goal.row-preserved
row-preserved c = supported_more c.args.tokens.now c.row.at c.word-word.result c.word-word.ensures (sym c.unsupported_rule.ensures ∙ c.in_default.is) c.row.invariant

pub returns-clause-none : goal.returns-clause-none
returns-clause-none c = supported_whole c.args.tokens.now c.row.at (omega (arith, c.row-test.false, c.len.ensures)) c.row.invariant
