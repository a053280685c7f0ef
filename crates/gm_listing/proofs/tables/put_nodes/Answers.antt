use Rattle.std.proofs.Common.{length, ◌≤◌, ◌<◌, arith}
use Rattle.std.specs.List.{enumerate_from}
use Rattle.std.proofs.lemmas.List.FromFn.{length-enumerate_from}
use Rattle.gm_listing.specs.Listing.{node_line}
use Rattle.gm_listing.proofs.Writing.{writes_none, writes_on, writes_all, at_index}
use Rattle.gm_listing.proofs.tables.put_nodes.Goals as goal

pub returns : goal.returns
returns c =
    let end : length (enumerate_from 0 c.args.graph.now.numbers) ≤ c.loop-node.node = omega (arith, length-enumerate_from 0 c.args.graph.now.numbers) in
    writes_all (λ node. node_line c.args.graph.now.numbers c.args.properties.now node.0 node.1) c.args.text.now.items c.loop-node.text.items (enumerate_from 0 c.args.graph.now.numbers) c.loop-node.node c.loop-node.invariant end

pub loop-node-init : goal.loop-node-init
loop-node-init c = writes_none (λ node. node_line c.args.graph.now.numbers c.args.properties.now node.0 node.1) c.args.text.now.items (enumerate_from 0 c.args.graph.now.numbers)

pub loop-node-preserved : goal.loop-node-preserved
loop-node-preserved c =
    let more : c.loop-node.node < length (enumerate_from 0 c.args.graph.now.numbers) = omega (arith, length-enumerate_from 0 c.args.graph.now.numbers) in
    writes_on (λ node. node_line c.args.graph.now.numbers c.args.properties.now node.0 node.1) c.args.text.now.items c.loop-node.text.items c.put_node.new.text.items (enumerate_from 0 c.args.graph.now.numbers) c.loop-node.node
    (c.loop-node.node, c.number.result) c.loop-node.invariant more (at_index c.args.graph.now.numbers c.loop-node.node c.number.result c.number.ensures) c.in_ok-put_node.ensures
