use Rattle.std.proofs.Common.{ap, ◌∙◌}
use Rattle.gm_semantics.specs.Stores.{write}
use Rattle.gm_store.specs.Held.{store_of}
use Rattle.gm_store.proofs.store.Store.write.Goals as goal

pub returns-clause-store : goal.returns-clause-store
returns-clause-store c = λ edge.
    c.in_default.ensures.store edge ∙ ap (λ h. write (store_of edge h) c.args.slot c.args.value) c.self.view_is
