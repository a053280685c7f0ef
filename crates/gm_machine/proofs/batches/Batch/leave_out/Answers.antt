-- More of the messages are taken.
use Rattle.std.proofs.Common.{◌≡◌, ◌+◌, ◌∙◌, map, drop, ap, sym}
use Rattle.std.proofs.lemmas.List.{drop-map, drop-drop}
use Rattle.gm_machine.specs.Batches.{message_of}
use Rattle.gm_machine.proofs.batches.Batch.leave_out.Goals as goal

pub returns-else-count-messages : goal.returns-else-count-messages
returns-else-count-messages c =
    ap (map (message_of c.self.inside.values)) (sym (drop-drop c.args.count c.self.inside.taken c.self.inside.headers.items))
    ∙ sym (drop-map (message_of c.self.inside.values) c.args.count (drop c.self.inside.taken c.self.inside.headers.items))
    ∙ ap (drop c.args.count) c.self.view_is
