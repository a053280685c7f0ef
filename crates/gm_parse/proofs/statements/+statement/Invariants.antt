use Rattle.std.proofs.Common.{◌+◌, ◌-◌, ◌*◌, length}
use Rattle.gm_parse.proofs.StatementLaws.{BlockSoFar}
use Rattle.gm_parse.proofs.statements.+statement.Given as goal

abbrev pub decreases-statement : goal.decreases-statement
decreases-statement l = 2 * (length l.tokens.now.tokens - l.at) + 1

abbrev pub decreases-block : goal.decreases-block
decreases-block l = 2 * (length l.tokens.now.tokens - l.at)

abbrev pub decreases-looping : goal.decreases-looping
decreases-looping l = 2 * (length l.tokens.now.tokens - l.at)

abbrev pub decreases-conditional : goal.decreases-conditional
decreases-conditional l = 2 * (length l.tokens.now.tokens - l.at)

abbrev pub decreases-whiling : goal.decreases-whiling
decreases-whiling l = 2 * (length l.tokens.now.tokens - l.at)

abbrev pub decreases-doing : goal.decreases-doing
decreases-doing l = 2 * (length l.tokens.now.tokens - l.at)

abbrev pub decreases-searching : goal.decreases-searching
decreases-searching l = 2 * (length l.tokens.now.tokens - l.at)

abbrev pub decreases-reverse : goal.decreases-reverse
decreases-reverse l = 2 * (length l.tokens.now.tokens - l.at)

abbrev pub invariant-block-row : goal.invariant-block-row
invariant-block-row l = BlockSoFar l.around l.tokens l.at l.first l.after l.body.items

abbrev pub decreases-block-row : goal.decreases-block-row
decreases-block-row l = length l.tokens.tokens - l.after
