use Rattle.gm_bfs.proofs.Tables.{none-marked}
use Rattle.gm_bfs.proofs.marked.Marks.none.Goals as goal

pub returns : goal.returns
returns c = none-marked c.new.result 0 c.args.count c.new.ensures.empty
