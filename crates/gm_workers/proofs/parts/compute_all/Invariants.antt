use Rattle.std.proofs.Common.{◌≡◌, ◌-◌, length}
use Rattle.gm_workers.specs.Parts.{PartTo}
use Rattle.gm_workers.proofs.parts.compute_all.Given as goal

abbrev pub invariant-nodes : goal.invariant-nodes
invariant-nodes g l = record {
  part : PartTo l.duty l.owners l.nodes l.inbox l.next l.fn.fields.rows l.fields.rows l.fn.posts l.posts l.fn.gathered l.gathered l.fn.came.items l.came.items l.sent;
  long : length l.fields.rows ≡ length l.nodes;
}

abbrev pub decreases-nodes : goal.decreases-nodes
decreases-nodes g l = length l.nodes - l.next
