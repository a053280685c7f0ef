use Rattle.std.proofs.Common.{◌≡◌, ◌<◌, ℕ, ap, sym, subst, ◌∙◌, length, get_or, set}
use Rattle.std.proofs.lemmas.List.{get_or_read}
use Rattle.gm_semantics.specs.declared.slots.Slot.{Slot}
use Rattle.gm_semantics.specs.declared.slots.Slot.TheVariants.{Node}
use Rattle.gm_semantics.specs.Stores.{write}
use Rattle.gm_store.specs.Held.{Held, no_row, with_value, store_of, shape_of, HasSlot}
use Rattle.gm_store.proofs.Writing.{node-written}
use Rattle.gm_store.proofs.store.Store.set.Goals as goal

pub returns-in_ok-set-in-Node-clause-store : goal.returns-in_ok-set-in-Node-clause-store
returns-in_ok-set-in-Node-clause-store c = λ edge.
    let before : Held = record { nodes = c.self.inside.nodes; scalars = c.self.inside.scalars.items; rows = c.self.inside.rows.items; undo = c.self.inside.undo.items } in
    let p : ℕ = c.in-Node.property in
    let n : ℕ = c.in-Node.node in
    let At : Slot → Type 0 = λ slot. HasSlot (shape_of before) slot in
    let In : Held → Type 0 = λ h. HasSlot (shape_of h) c.args.slot in
    let within : HasSlot (shape_of before) (Node p n) = subst At c.in-Node.is (subst In (sym c.self.view_is) c.requires) in
    let row : c.index_mut-row.result.now ≡ get_or before.rows p no_row = get_or_read before.rows p c.index_mut-row.result.now within.0 c.index_mut-row.ensures.value no_row in
    let Below : ℕ → Type 0 = λ nodes. n < nodes in
    let in_row : n < length (get_or before.rows p no_row).values = subst Below (sym (c.self.invariant.full p no_row within.0)) within.1 in
    let changed : c.set.new.self ≡ with_value (get_or before.rows p no_row) n c.args.value = c.in_ok-set-in-Node.ensures.ok ∙ ap (λ r. with_value r n c.args.value) row in
    ap (λ r. store_of edge (record before { rows = set before.rows p r })) changed
    ∙ node-written edge before p n c.args.value within.0 in_row
    ∙ ap (λ h. write (store_of edge h) (Node p n) c.args.value) c.self.view_is
    ∙ ap (λ slot. write (store_of edge c.args.self.now) slot c.args.value) (sym c.in-Node.is)
