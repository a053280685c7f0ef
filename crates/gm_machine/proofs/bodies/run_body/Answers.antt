-- A line of the body, and those behind it.
use Rattle.std.proofs.Common.{◌≡◌, ◌-◌, ◌+◌, get_or, length, rules}
use Rattle.gm_machine.proofs.Serving.{body_item}
use Rattle.gm_machine.proofs.bodies.run_body.Goals as goal

pub run_body_line-requires-clause-asked : goal.run_body_line-requires-clause-asked
run_body_line-requires-clause-asked c =
    let body = c.args.body.now in
    let x = c.index-body-i.result in
    let is : x ≡ get_or body c.loop-i.i x = search rules in
    body_item c.args.context.now.in_rows.now body (length body - (c.loop-i.i + 1)) c.loop-i.i x c.loop-i-test.true is c.requires.asked
