use Rattle.std.proofs.Common.{◌≡◌, ◌∙◌, ◌<◌, ℕ, List, length, refl, sym, ap, subst}
use Rattle.std.specs.Prelude.{Vec}
use Rattle.gm_value.specs.declared.values.Value.{Value}
use Rattle.gm_posting.specs.Gathering.{held}
use Rattle.gm_machine.specs.Vertex.{Message}
use Rattle.gm_node_batches.specs.Openings.{AreSameSteps, boxes_of}
use Rattle.gm_workers.specs.Parts.{items_of}
use Rattle.gm_workers.proofs.PartLemmas.{did}
use Rattle.gm_workers.proofs.SameSteps.{done-same}
use Rattle.gm_workers.proofs.parts.work.Goals as goal

pub compute_and_send-requires-clause-inbox : goal.compute_and_send-requires-clause-inbox
compute_and_send-requires-clause-inbox g c = c.in_ok-inbox.ensures.boxes ∙ ap (λ (l : List ℕ). length l) (c.deref.ensures.value ∙ sym c.deref-3.ensures.value)

pub returns : goal.returns
returns g c =
    let places : ℕ = length c.deref.result.now in
    let boxes : List (List Message) = boxes_of c.in_ok-messages.messages places in
    let same : AreSameSteps c.args.duty.now c.deref-3.result.now c.in_ok-inbox.inbox c.open.new.fields.rows boxes c.args.slot.now.fields.rows =
    subst (λ (l : List ℕ). AreSameSteps c.args.duty.now l c.in_ok-inbox.inbox c.open.new.fields.rows boxes c.args.slot.now.fields.rows) (c.deref.ensures.value ∙ sym c.deref-3.ensures.value) c.in_ok-inbox.ensures.same_steps in
    did c.args.duty.now c.args.dealing.now c.args.slot.now _ c.args.posts.now c.compute_and_send.new.posts c.compute_and_send.new.sent c.deref-2.result.now c.deref-3.result.now boxes c.worker.result places c.replace-waiting.result.items
    c.as_mut_slice.result.now c.replace-waiting.new.dest.items
    c.deref-2.ensures.value c.deref-3.ensures.value (ap (λ (ms : List Message). boxes_of ms places) c.in_ok-messages.ensures) c.worker.ensures (ap (λ (l : List ℕ). length l) c.deref.ensures.value) (ap (λ (v : Vec _ _). v.items) c.replace-waiting.ensures.value)
    (λ to. ap (λ (l : List _). held items_of l to) c.as_mut_slice.ensures.value ∙ c.in_ok-gathered.ensures.none to)
    (ap (λ (l : List _). length l) c.as_mut_slice.ensures.value ∙ c.in_ok-gathered.ensures.wide ∙ c.workers.ensures.count)
    (ap (λ (v : Vec _ _). v.items) c.replace-waiting.ensures.after ∙ c.new.ensures.items)
    refl
    (done-same c.args.duty.now c.deref-2.result.now c.deref-3.result.now c.in_ok-inbox.inbox boxes c.open.new.fields.rows c.args.slot.now.fields.rows _ c.args.posts.now c.compute_and_send.new.posts
    c.as_mut_slice.result.now c.replace-waiting.new.dest.items _ c.compute_and_send.new.sent same c.in_ok-compute_and_send.ensures)
