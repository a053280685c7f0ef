-- A superstep of the workers.
use Rattle.std.proofs.Common.{◌≤◌, ◌∙◌, List, Vec, Global, length, map, sym, ap, subst}
use Rattle.std.specs.Prelude.{IsTrue}
use Rattle.std.specs.List.{flat_map}
use Rattle.gm_model.specs.Graphs.{node_count}
use Rattle.gm_image.specs.declared.images.Image.{Image}
use Rattle.gm_image.specs.Soundness.{is_sound}
use Rattle.gm_image.specs.Views.{program}
use Rattle.gm_node_batches.specs.declared.steps.Sent.{Sent}
use Rattle.gm_machine.specs.Faults.{least_fault}
use Rattle.gm_machine.specs.Taking.{settled}
use Rattle.gm_core.specs.Supersteps.{superstep_events}
use Rattle.gm_workers.specs.declared.crews.Slot.{Slot}
use Rattle.gm_workers.specs.Threads.{CanWork, Worked}
use Rattle.gm_workers.specs.Parts.{messages_in}
use Rattle.gm_workers.specs.Crews.{GoByEvents, AreSmall, deliveries_from}
use Rattle.gm_workers.proofs.CrewLemmas.{can-work, still-crew, delivered-small, goes-by-events}
use Rattle.gm_workers.proofs.StandLemmas.{stands-for-step}
use Rattle.gm_workers.proofs.supersteps.superstep.Given as given
use Rattle.gm_workers.proofs.supersteps.superstep.Goals as goal

pub work_all-requires-clause-few : goal.work_all-requires-clause-few
work_all-requires-clause-few g c =
    λ κs within. subst (λ (v : Vec Slot Global). length v.items ≤ 64) (sym c.replace-before.ensures.value) c.requires.crew.few

pub work_all-requires-clause-duty : goal.work_all-requires-clause-duty
work_all-requires-clause-duty g c = λ κs within. c.of-duty.ensures.is

pub work_all-requires-clause-ready : goal.work_all-requires-clause-ready
work_all-requires-clause-ready g c =
    λ κs within.
    subst (λ (v : Vec Slot Global). CanWork c.of-duty.result c.args.crew.now.dealing v.items) (sym c.replace-before.ensures.value)
    (can-work (program c.args.image.now) c.args.graph.now c.args.block c.args.globals.now.items c.args.crew.now.dealing (length c.args.crew.now.slots.items) c.args.crew.now.slots.items c.requires.crew
    c.of-duty.result (ap program c.of-duty.ensures.image) c.of-duty.ensures.block c.of-duty.ensures.graph (c.of-duty.ensures.globals ∙ c.as_slice.ensures.value))

-- what the workers did
did : (g : given.Over) (c : goal.After-drop-sent-2 g) → Worked c.of-duty.result c.args.crew.now.dealing c.args.crew.now.slots.items c.in_ok-after.after.items c.in_ok-after.sent.items
did g c = subst (λ (v : Vec Slot Global). Worked c.of-duty.result c.args.crew.now.dealing v.items c.in_ok-after.after.items c.in_ok-after.sent.items) c.replace-before.ensures.value c.in_ok-after.ensures

pub returns-clause-crew : goal.returns-clause-crew
returns-clause-crew g c =
    still-crew (program c.args.image.now) c.args.graph.now c.args.block c.args.globals.now.items c.args.crew.now.dealing (length c.args.crew.now.slots.items) c.args.crew.now.slots.items c.requires.crew
    c.of-duty.result (ap program c.of-duty.ensures.image) c.of-duty.ensures.block c.of-duty.ensures.graph (c.of-duty.ensures.globals ∙ c.as_slice.ensures.value)
    c.in_ok-after.after.items c.in_ok-after.sent.items (did g c)

pub returns-clause-small : goal.returns-clause-small
returns-clause-small g c =
    subst AreSmall (sym (c.in_ok-delivered.ensures ∙ ap (deliveries_from 0) c.as_slice-4.ensures.value))
    (delivered-small (program c.args.image.now) c.args.graph.now c.args.block c.args.globals.now.items c.args.crew.now.dealing (length c.args.crew.now.slots.items) c.args.crew.now.slots.items c.requires.crew
    c.of-duty.result (ap program c.of-duty.ensures.image) c.of-duty.ensures.block c.of-duty.ensures.graph (c.of-duty.ensures.globals ∙ c.as_slice.ensures.value)
    c.in_ok-after.after.items c.in_ok-after.sent.items (did g c))

pub returns-clause-events : goal.returns-clause-events
returns-clause-events g c =
    λ left line c' s seen ready shows.
    subst (λ l. GoByEvents (program c.args.image.now) c.args.graph.now c.args.crew.now.dealing.owners.items (length c.args.crew.now.slots.items)
    (superstep_events c.args.crew.now.dealing.owners.items (node_count c.args.graph.now) (length c.args.crew.now.slots.items) l) c.args.crew.now.slots.items c.in_ok-after.after.items s)
    (sym (c.in_ok-delivered.ensures ∙ ap (deliveries_from 0) c.as_slice-4.ensures.value))
    (goes-by-events (program c.args.image.now) c.args.graph.now c.args.block c.args.globals.now.items c.args.crew.now.dealing (length c.args.crew.now.slots.items) c.args.crew.now.slots.items c.requires.crew
    c.of-duty.result (ap program c.of-duty.ensures.image) c.of-duty.ensures.block c.of-duty.ensures.graph (c.of-duty.ensures.globals ∙ c.as_slice.ensures.value)
    c.in_ok-after.after.items c.in_ok-after.sent.items (did g c) left line c' s seen shows ready)

pub returns-clause-stands : goal.returns-clause-stands
returns-clause-stands g c =
    λ d stand.
    stands-for-step (program c.args.image.now) c.args.graph.now c.args.block c.args.globals.now.items c.args.crew.now.dealing (length c.args.crew.now.slots.items) c.args.crew.now.slots.items c.requires.crew
    (subst (λ (i : Image). IsTrue (is_sound (program i))) c.image.ensures.same c.image.ensures.sound) d stand
    c.of-duty.result (ap program c.of-duty.ensures.image) c.of-duty.ensures.block c.of-duty.ensures.graph (c.of-duty.ensures.globals ∙ c.as_slice.ensures.value)
    c.in_ok-after.after.items c.in_ok-after.sent.items (did g c)
    c.in_ok-puts.puts c.in_ok-puts.least c.in_ok-put.put c.lesser.result c.settle_puts.new.globals.items c.in_ok-messages.messages
    (c.in_ok-puts.ensures.puts ∙ ap (flat_map (λ (s : Sent). s.puts)) c.as_slice-2.ensures.value)
    (c.in_ok-puts.ensures.fault ∙ ap (λ (l : List Sent). least_fault (map (λ (s : Sent). s.fault) l)) c.as_slice-2.ensures.value)
    (c.in_ok-put.ensures ∙ ap (λ (i : Image). settled (length i.places) c.in_ok-puts.puts c.args.globals.now.items) c.image.ensures.same)
    (c.in_ok-messages.ensures ∙ ap (λ (l : List Slot). length (flat_map (λ (x : Slot). messages_in x.waiting.items) l)) c.as_slice-3.ensures.value)
    c.lesser.ensures
