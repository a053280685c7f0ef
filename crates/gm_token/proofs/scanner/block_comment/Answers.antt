use Rattle.gm_token.proofs.Gaps.{block_gap}
use Rattle.gm_token.proofs.scanner.block_comment.Goals as goal

pub returns-in-Some-clause-part : goal.returns-in-Some-clause-part
returns-in-Some-clause-part c = block_gap c.args.text.now c.in-Some.length c.requires c.in-Some.ensures
