use Rattle.std.proofs.Common.{◌≡◌, ap, ◌∙◌, ◌<◌, ℕ, sym, subst, length, set, get_or}
use Rattle.std.proofs.lemmas.List.{get_or_read}
use Rattle.gm_columns.specs.Cells.{values_of}
use Rattle.gm_store.specs.Held.{Held, Row, no_row, replaced, store_of}
use Rattle.gm_store.proofs.Writing.{row-replaced}
use Rattle.gm_store.proofs.store.Store.replace.Goals as goal

pub returns-clause-store : goal.returns-clause-store
returns-clause-store c = λ edge.
    let before : Held = record { nodes = c.self.inside.nodes; scalars = c.self.inside.scalars.items; rows = c.self.inside.rows.items; undo = c.self.inside.undo.items } in
    let p : ℕ = c.args.property in
    let In : Held → Type 0 = λ h. p < length h.rows in
    let within : p < length before.rows = subst In (sym c.self.view_is) c.requires.property in
    let row : c.index_mut-row.result.now ≡ get_or before.rows p no_row = get_or_read before.rows p c.index_mut-row.result.now within c.index_mut-row.ensures.value no_row in
    let full : length (values_of c.args.cells) ≡ length (get_or before.rows p no_row).values =
    c.requires.full ∙ ap (λ (h : Held). h.nodes) (sym c.self.view_is) ∙ sym (c.self.invariant.full p no_row within) in
    let changed : c.replace.new.self ≡ record { values = values_of c.args.cells; other = (get_or before.rows p no_row).other } =
    c.replace.ensures ∙ ap (λ (r : Row). let k : Row = record r { values = values_of c.args.cells } in k) row in
    ap (λ r. store_of edge (record before { rows = set before.rows p r })) changed
    ∙ row-replaced edge before p (values_of c.args.cells) within full
    ∙ ap (λ h. replaced (store_of edge h) p (values_of c.args.cells)) c.self.view_is
