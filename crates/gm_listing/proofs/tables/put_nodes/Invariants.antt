use Rattle.std.specs.List.{enumerate_from}
use Rattle.gm_listing.specs.Listing.{node_line}
use Rattle.gm_listing.proofs.Writing.{IsWriting}
use Rattle.gm_listing.proofs.tables.put_nodes.Given as goal

abbrev pub invariant-loop-node : goal.invariant-loop-node
invariant-loop-node l = IsWriting (λ node. node_line l.graph.numbers l.properties node.0 node.1) l.initial.text.items l.text.items (enumerate_from 0 l.graph.numbers) l.node
