-- A message in columns is of their kind.
use Rattle.std.proofs.Common.{◌∙◌, ap, sym}
use Rattle.gm_machine.specs.Vertex.{Message}
use Rattle.gm_message_columns.proofs.ListLemmas.{at-row, some-list, some-low}
use Rattle.gm_message_columns.proofs.messages.Messages.kind.Goals as goal

pub returns-in-Some : goal.returns-in-Some
returns-in-Some c = λ d.
    c.kind.ensures
    ∙ ap (λ (m : Message). m.kind)
    (sym (at-row c.in-Some.columns c.self.inside.others c.args.self.now c.args.i d (some-list c.self.inside.columns c.in-Some.columns c.self.inside.others c.args.self.now c.in-Some.is c.self.view_is)
    (some-low c.self.inside.columns c.in-Some.columns c.args.i c.rows_of-rows.result c.in-Some.is c.rows_of-rows.ensures c.if-i-rows.true)))
