use Rattle.std.proofs.Common.{[], ◌∷◌, ◌++◌, ◌∙◌, ap}
use Rattle.gm_machine.specs.Vertex.{Message}
use Rattle.gm_machine.proofs.Messages.{message-own}
use Rattle.gm_machine.proofs.batches.Batch.add_from.Goals as goal

pub returns-clause-added : goal.returns-clause-added
returns-clause-added c = λ d.
    c.in_ok-add_to.ensures.added d ∙ ap (λ (m : Message). c.args.self.now ++ m ∷ []) (message-own c.args.other.now c.args.i c.to.result d c.requires c.to.ensures)
