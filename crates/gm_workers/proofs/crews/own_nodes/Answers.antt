-- One more node is the worker's, or another's.
use Rattle.std.proofs.Common.{◌∙◌, ◌++◌, ◌∷◌, [], List, ℕ, Vec, Global, sym, ap}
use Rattle.gm_workers.proofs.DealingLemmas.{own-same, own-other}
use Rattle.gm_workers.proofs.crews.own_nodes.Goals.{then-owner_in-worker+in_ok-push, else-owner_in-worker}
use Rattle.gm_workers.proofs.crews.own_nodes.Goals as goal

pub loop-node-preserved : goal.loop-node-preserved
loop-node-preserved c =
    elim c.if-owner_in-worker.branch [
      | then-owner_in-worker+in_ok-push w ↦ (
          ap (λ (v : Vec ℕ Global). v.items) w.nodes-is
          ∙ w.in_ok-push.ensures.items
          ∙ ap (λ (l : List ℕ). l ++ c.loop-node.node ∷ []) c.loop-node.invariant
          ∙ sym (own-same c.args.owners.now c.args.worker c.loop-node.node (sym c.owner_in.ensures ∙ w.if-owner_in-worker.true)))
      | else-owner_in-worker w ↦ (
          ap (λ (v : Vec ℕ Global). v.items) w.nodes-is
          ∙ c.loop-node.invariant
          ∙ sym (own-other c.args.owners.now c.args.worker c.loop-node.node (λ e. w.if-owner_in-worker.false (c.owner_in.ensures ∙ e))))
    ]
