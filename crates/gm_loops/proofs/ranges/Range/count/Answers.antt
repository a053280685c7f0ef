use Rattle.std.proofs.Common.{◌≡◌, ◌<◌, ◌∙◌, length, subst, sym}
use Rattle.gm_model.specs.Graphs.{NumberedGraph, in_steps, node_count}
use Rattle.gm_loops.proofs.Steps.{length-node_steps}
use Rattle.gm_loops.proofs.ranges.Range.count.Goals as goal

pub returns-in-AllNodes-clause-count : goal.returns-in-AllNodes-clause-count
returns-in-AllNodes-clause-count c =
    rw c.in-AllNodes.is (c.node_count.ensures.count ∙ sym (length-node_steps c.args.self.now.graph.now))

pub degree-requires : goal.degree-requires
degree-requires c =
    let start = rw c.in-To.is at c.requires in
    subst (λ (g : NumberedGraph). c.in-To.node < node_count g) (sym start.0) start.1

pub returns-in-To-clause-count : goal.returns-in-To-clause-count
returns-in-To-clause-count c =
    let start = rw c.in-To.is at c.requires in
    rw c.in-To.is (subst (λ (g : NumberedGraph). c.degree.result ≡ length (in_steps g c.in-To.node)) start.0 c.degree.ensures.degree)
