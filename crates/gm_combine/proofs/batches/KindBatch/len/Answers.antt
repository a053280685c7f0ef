-- As many messages as places.
use Rattle.std.proofs.Common.{sym, ap, length, ◌∙◌}
use Rattle.gm_combine.specs.Batches.{values_of}
use Rattle.gm_combine.proofs.Messages.{length-messages}
use Rattle.gm_combine.proofs.batches.KindBatch.len.Goals as goal

pub returns : goal.returns
returns c =
    ap length c.as_slice.ensures.value
    ∙ sym (length-messages c.self.inside.kind c.self.inside.places.items (values_of c.self.inside.values) c.self.invariant)
    ∙ ap (λ b. length b.messages) c.self.view_is
