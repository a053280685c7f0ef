use Rattle.std.proofs.Common.{take}
use Rattle.gm_token.proofs.Longest.{number_bytes}
use Rattle.gm_token.proofs.Gaps.{number_digits, too_large, small, bad_byte}
use Rattle.gm_token.proofs.scanner.token_part.Goals as goal

pub is_too_large-requires : goal.is_too_large-requires
is_too_large-requires c = λ is. number_bytes (take c.in-Some.length c.args.text.now) (number_digits c.in-Some.word c.in-Some.length c.args.text.now c.in-Some.ensures.found.1 is)

pub returns-then-is_too_large-clause-broken : goal.returns-then-is_too_large-clause-broken
returns-then-is_too_large-clause-broken c = too_large c.in-Some.word c.in-Some.length c.args.text.now c.is_too_large.result c.in-Some.ensures.found.1 c.is_too_large.ensures c.if-is_too_large.true

pub returns-else-is_too_large-clause-part : goal.returns-else-is_too_large-clause-part
returns-else-is_too_large-clause-part c = (c.in-Some.ensures.found.0, c.in-Some.ensures.found.1, small c.in-Some.word c.in-Some.length c.args.text.now c.is_too_large.result c.in-Some.ensures.found.1 c.is_too_large.ensures c.if-is_too_large.false)

pub returns-in-None-clause-broken : goal.returns-in-None-clause-broken
returns-in-None-clause-broken c = bad_byte c.args.text.now c.requires.some_byte c.requires.no_blank c.requires.no_line c.requires.no_block c.in-None.ensures.none
