use Rattle.std.proofs.Common.{◌≡◌, ◌<◌, Some, length, slice_get, subst, sym}
use Rattle.gm_model.specs.Graphs.{NumberedGraph, edges_of, in_steps, node_count, nodes_of, out_steps}
use Rattle.gm_graph.specs.Walks.{edge_at}
use Rattle.gm_loops.proofs.Steps.{length-node_steps, step-node_steps, step-parts}
use Rattle.gm_loops.proofs.ranges.Range.hop.Goals as goal

pub returns-in-AllNodes-clause-known : goal.returns-in-AllNodes-clause-known
returns-in-AllNodes-clause-known c =
    let within = rw c.in-AllNodes.is at c.requires.within in
    rw length-node_steps at within

pub returns-in-AllNodes-clause-step : goal.returns-in-AllNodes-clause-step
returns-in-AllNodes-clause-step c =
    let within = rw c.in-AllNodes.is at c.requires.within in
    rw c.in-AllNodes.is (step-node_steps c.args.self.now.graph.now c.args.k (rw length-node_steps at within))

pub returns-in-From-clause-step : goal.returns-in-From-clause-step
returns-in-From-clause-step c =
    rw c.in-From.is (step-parts (out_steps c.args.self.now.graph.now c.in-From.node) c.args.k _ _ c.out_target.ensures.target c.out_row.ensures.edge)

pub source-requires-clause-node : goal.source-requires-clause-node
source-requires-clause-node c =
    let start = rw c.in-To.is at c.requires.start in
    subst (λ (g : NumberedGraph). c.in-To.node < node_count g) (sym start.0) start.1

pub source-requires-clause-step : goal.source-requires-clause-step
source-requires-clause-step c =
    let start = rw c.in-To.is at c.requires.start in
    subst (λ (g : NumberedGraph). c.args.k < length (in_steps g c.in-To.node)) (sym start.0) (rw c.in-To.is at c.requires.within)

pub row-requires-clause-node : goal.row-requires-clause-node
row-requires-clause-node c =
    let start = rw c.in-To.is at c.requires.start in
    subst (λ (g : NumberedGraph). c.in-To.node < node_count g) (sym start.0) start.1

pub row-requires-clause-step : goal.row-requires-clause-step
row-requires-clause-step c =
    let start = rw c.in-To.is at c.requires.start in
    subst (λ (g : NumberedGraph). c.args.k < length (in_steps g c.in-To.node)) (sym start.0) (rw c.in-To.is at c.requires.within)

pub returns-in-To-clause-known : goal.returns-in-To-clause-known
returns-in-To-clause-known c =
    let start = rw c.in-To.is at c.requires.start in
    subst (λ (g : NumberedGraph). c.source.result < node_count g) start.0 c.source.ensures.known

pub returns-in-To-clause-step : goal.returns-in-To-clause-step
returns-in-To-clause-step c =
    let g : NumberedGraph = c.args.self.now.graph.now in
    let start = rw c.in-To.is at c.requires.start in
    rw c.in-To.is (step-parts (in_steps g c.in-To.node) c.args.k _ _
    (subst (λ (h : NumberedGraph). slice_get (nodes_of (in_steps h c.in-To.node)) c.args.k ≡ Some c.source.result) start.0 c.source.ensures.source)
    (subst (λ (h : NumberedGraph). slice_get (edges_of (in_steps h c.in-To.node)) c.args.k ≡ Some (edge_at h (Some c.row.result))) start.0 c.row.ensures.edge))
