use Rattle.std.proofs.Common.{List, refl, sym, ◌∙◌, subst}
use Rattle.gm_node_batches.specs.declared.steps.Sent.{Sent}
use Rattle.gm_machine.specs.Vertex.{Message}
use Rattle.gm_node_batches.proofs.TakenLaws.{taken-long}
use Rattle.gm_core.specs.Cores.{for_worker}
use Rattle.gm_workers.specs.Parts.{Hands, step_at}
use Rattle.gm_workers.proofs.PartLemmas.{part-more}
use Rattle.gm_workers.proofs.parts.compute_all.Goals as goal

pub nodes-preserved : goal.nodes-preserved
nodes-preserved g c =
    let s : Sent = record { messages = c.replace.new.dest; puts = c.steps_of_nodes.new.sent.puts; fault = c.steps_of_nodes.new.sent.fault } in
    record {
      part =
          part-more c.args.duty.now c.args.owners.now c.args.nodes.now c.args.inbox.now c.nodes.next c.in_ok-next.next c.args.fields.now.rows c.nodes.fields c.steps_of_nodes.new.fields
          c.args.posts.now c.nodes.posts c.hand_over.new.posts c.args.gathered.now c.nodes.gathered c.hand_over.new.gathered c.args.came.now.items c.nodes.came.items c.hand_over.new.came.items
          c.nodes.sent c.steps_of_nodes.new.sent s c.nodes.invariant.part c.in_ok-next.ensures.steps
          (subst (λ (ms : List Message). Hands (λ w. for_worker c.args.owners.now w ms) c.nodes.posts c.hand_over.new.posts c.nodes.gathered c.hand_over.new.gathered c.nodes.came.items c.hand_over.new.came.items)
          c.replace.ensures.value c.in_ok-hand_over.ensures)
          (c.requires.fields ∙ sym c.nodes.invariant.long) (c.replace.ensures.after ∙ c.empty.ensures) refl refl;
      long =
          taken-long (step_at c.args.duty.now c.args.nodes.now c.args.inbox.now c.nodes.fields.rows) c.nodes.next c.in_ok-next.next c.nodes.fields c.steps_of_nodes.new.fields c.nodes.sent c.steps_of_nodes.new.sent c.in_ok-next.ensures.steps
          ∙ c.nodes.invariant.long;
    }
