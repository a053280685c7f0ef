use Rattle.std.proofs.Common.{ap, ◌∙◌, length, ◌++◌, ◌∷◌, []}
use Rattle.gm_semantics.specs.Stores.{fill}
use Rattle.gm_store.specs.Held.{Held, store_of}
use Rattle.gm_store.proofs.Writing.{row-added}
use Rattle.gm_store.proofs.store.Store.add_row.Goals as goal

pub returns-clause-store : goal.returns-clause-store
returns-clause-store c = λ edge.
    let before : Held = record { nodes = c.self.inside.nodes; scalars = c.self.inside.scalars.items; rows = c.self.inside.rows.items; undo = c.self.inside.undo.items } in
    ap (λ rows. store_of edge (record before { rows = rows })) (c.in_ok-push.ensures.items ∙ ap (λ row. c.self.inside.rows.items ++ row ∷ []) c.uniform-row.ensures)
    ∙ row-added edge before c.args.other
    ∙ ap (λ h. fill (store_of edge h) (length h.rows) c.args.other) c.self.view_is
