-- One more message.
use Rattle.std.proofs.Common.{◌≡◌, ◌∷◌, [], ◌++◌, List, sym, ap, ◌∙◌}
use Rattle.gm_combine.specs.Batches.{values_of, messages_to}
use Rattle.gm_combine.proofs.Messages.{messages-more}
use Rattle.gm_combine.proofs.batches.KindBatch.add.Goals as goal

pub returns-in-Ok-clause-added : goal.returns-in-Ok-clause-added
returns-in-Ok-clause-added c =
    let places : c.push.new.self.items ≡ c.self.inside.places.items ++ c.args.place ∷ [] = c.in_ok-push.ensures.items in
    rw (places, c.in-Ok.ensures.added, ← c.self.view_is)
    (messages-more c.self.inside.kind c.self.inside.places.items (values_of c.self.inside.values) c.args.place c.args.value c.self.invariant)
