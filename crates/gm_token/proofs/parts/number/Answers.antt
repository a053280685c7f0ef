use Rattle.std.proofs.Common.{◌+◌, arith}
use Rattle.gm_token.proofs.Longest.{no_dot, no_part, a_part, run_of_rest}
use Rattle.gm_token.specs.Bytes.{is_digit}
use Rattle.gm_token.proofs.parts.number.Goals as goal
use Rattle.gm_token.proofs.parts.number.Goals.{else-whole-text-via-then-whole-text+else-text-whole-eq46, else-whole-text-via-else-whole-text}

pub returns-then-part-gt0 : goal.returns-then-part-gt0
returns-then-part-gt0 c = a_part c.args.text.now c.digit_run-whole.result c.digit_run-part.result c.requires.digit c.digit_run-whole.ensures c.requires.no_symbol c.if-whole-text.true c.if-text-whole-eq46.true (run_of_rest is_digit c.args.text.now (c.digit_run-whole.result + 1) c.digit_run-part.result c.digit_run-part.ensures) c.if-part-gt0.true

pub returns-else-part-gt0 : goal.returns-else-part-gt0
returns-else-part-gt0 c = no_part c.args.text.now c.digit_run-whole.result c.digit_run-part.result c.requires.digit c.digit_run-whole.ensures c.requires.no_symbol (run_of_rest is_digit c.args.text.now (c.digit_run-whole.result + 1) c.digit_run-part.result c.digit_run-part.ensures) c.if-part-gt0.false

pub returns-else-whole-text : goal.returns-else-whole-text
returns-else-whole-text c = no_dot c.args.text.now c.digit_run-whole.result c.requires.digit c.digit_run-whole.ensures c.requires.no_symbol
    (elim c.else-whole-text.branch [ else-whole-text-via-then-whole-text+else-text-whole-eq46 w ↦ λ lt dot. w.if-text-whole-eq46.false dot | else-whole-text-via-else-whole-text w ↦ λ lt dot. omega arith ])
