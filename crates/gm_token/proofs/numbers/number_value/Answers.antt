use Rattle.std.proofs.Common.{◌+◌, drop, get_or, arith}
use Rattle.gm_token.proofs.Values.{more, no_less, read_one}
use Rattle.gm_token.proofs.numbers.number_value.Goals as goal

pub returns-then-value-more : goal.returns-then-value-more
returns-then-value-more c =
    let value = c.loop-digit.value in
    let i = c.loop-digit.digit-index in
    let digits = c.args.digits.now in
    λ le. omega (arith, no_less (more value (get_or digits i 0)) (drop (i + 1) digits), read_one value i digits c.loop-digit-test.true, c.loop-digit.invariant.0, c.from-more.ensures, c.if-value-more.true)
