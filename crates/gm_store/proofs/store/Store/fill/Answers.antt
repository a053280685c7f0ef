use Rattle.std.proofs.Common.{ap, ◌∙◌, ◌<◌, sym, subst, length, set}
use Rattle.gm_semantics.specs.Stores.{fill}
use Rattle.gm_store.specs.Held.{Held, store_of}
use Rattle.gm_store.proofs.Writing.{row-filled}
use Rattle.gm_store.proofs.store.Store.fill.Goals as goal

pub returns-clause-store : goal.returns-clause-store
returns-clause-store c = λ edge.
    let before : Held = record { nodes = c.self.inside.nodes; scalars = c.self.inside.scalars.items; rows = c.self.inside.rows.items; undo = c.self.inside.undo.items } in
    let P : Held → Type 0 = λ h. c.args.property < length h.rows in
    ap (λ row. store_of edge (record before { rows = set before.rows c.args.property row })) c.uniform.ensures
    ∙ row-filled edge before c.args.property c.args.value (subst P (sym c.self.view_is) c.requires)
    ∙ ap (λ h. fill (store_of edge h) c.args.property c.args.value) c.self.view_is
