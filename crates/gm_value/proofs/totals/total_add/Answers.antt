-- The total that shows one more number stands for each bag with one more member.
use Rattle.gm_value.proofs.TotalLaws.{adds_member}
use Rattle.gm_value.proofs.totals.total_add.Goals as goal

pub returns-clause-adds : goal.returns-clause-adds
returns-clause-adds c = adds_member c.args.r c.args.a c.args.b c.with_member.result c.with_member.ensures.near c.with_member.ensures.shows
