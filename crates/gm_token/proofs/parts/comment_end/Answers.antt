use Rattle.std.proofs.Common.{sym, ◌∙◌}
use Rattle.gm_token.proofs.Comments.{no_end, end_found}
use Rattle.gm_token.proofs.parts.comment_end.Goals as goal

pub returns-then-starts_with : goal.returns-then-starts_with
returns-then-starts_with c = end_found c.args.text.now c.loop-at.at c.loop-at-test.true c.loop-at.invariant (sym c.starts_with.ensures.value ∙ c.if-starts_with.true)

pub returns : goal.returns
returns c = no_end c.args.text.now c.loop-at.at c.loop-at-test.false c.loop-at.invariant
