-- A worker has its own nodes, and each has its first fields.
use Rattle.std.proofs.Common.{◌≡◌, ◌<◌, ◌∙◌, List, ℕ, length, map, sym, ap, subst}
use Rattle.std.specs.Prelude.{slice_index}
use Rattle.gm_model.specs.Graphs.{HasNode, node_count}
use Rattle.gm_image.specs.Views.{program}
use Rattle.gm_machine.specs.Machine.{start_fields}
use Rattle.gm_core.specs.Supersteps.{own}
use Rattle.gm_workers.proofs.DealingLemmas.{own-at}
use Rattle.gm_workers.proofs.crews.first_slot.Goals as goal

pub first_fields-requires : goal.first_fields-requires
first_fields-requires c =
    let are : c.as_slice.result.now ≡ own c.args.owners.now c.args.worker (node_count c.args.graph.now) =
    c.as_slice.ensures.value ∙ c.in_ok-nodes.ensures ∙ ap (own c.args.owners.now c.args.worker) c.node_count.ensures.count in
    λ place low.
    subst (λ (l : List ℕ). HasNode c.args.graph.now (slice_index l place)) (sym are)
    (own-at c.args.owners.now c.args.worker (node_count c.args.graph.now) place (subst (λ (l : List ℕ). place < length l) are low)).low

pub returns-clause-fields : goal.returns-clause-fields
returns-clause-fields c =
    c.in_ok-fields.ensures
    ∙ ap (map (λ n. start_fields (program c.args.image.now) c.args.graph.now (n, n))) (c.as_slice.ensures.value ∙ c.in_ok-nodes.ensures ∙ ap (own c.args.owners.now c.args.worker) c.node_count.ensures.count)
