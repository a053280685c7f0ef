use Rattle.std.proofs.Common.{[], ◌∷◌, map, subst, sym}
use Rattle.gm_image.specs.Program.{Send}
use Rattle.gm_image.specs.Views.{term}
use Rattle.gm_message_columns.specs.MessageTables.{message_rows}
use Rattle.gm_batches.proofs.ColumnLaws.{if_found}
use Rattle.gm_batch_steps.specs.Turns.{TurnsSend, turns_in}
use Rattle.gm_batch_steps.proofs.sends.send.Goals as goal

pub returns : goal.returns
returns c =
    let context = c.args.context.now in
    if_found c.send_to_neighbours.result
    (λ sent run. subst (λ to. TurnsSend (Send c.args.kind to (map term c.args.values.now) ∷ []) context c.args.state.now (turns_in context c.args.turns.now) (message_rows sent))
    (sym (c.is_neighbour.ensures c.if-not-is_neighbour.false)) run)
    c.send_to_neighbours.ensures
