use Rattle.std.proofs.Common.{◌<◌, ◌∙◌, arith, length}
use Rattle.gm_graph.proofs.Spreading.{rows-more}
use Rattle.gm_graph.proofs.rows.rows_of.Goals as goal

pub index_of-node-requires : goal.index_of-node-requires
index_of-node-requires c =
    let room : c.loop-row.row < length c.args.extra.now = omega (arith, c.loop-row-test.true, c.len-row-end.ensures.len) in
    rw c.get.ensures (c.requires.known c.loop-row.row 0 room)

pub loop-row-preserved : goal.loop-row-preserved
loop-row-preserved c = (
  c.loop-row.invariant.0,
  rows-more c.args.numbers.now c.args.extra.now c.loop-row.rows.items c.loop-row.row c.index_of-node.result c.requires.ascending (omega arith) c.index_of-node.ensures.within (c.index_of-node.ensures.number ∙ c.get.ensures) c.loop-row.invariant.1,
)
