-- A sender's row gets shorter, and a receiver's longer.
use Rattle.std.proofs.Common.{◌≡◌, ◌∙◌, ◌++◌, [], length, take, drop, ap, arith}
use Rattle.std.specs.Prelude.{slice_set}
use Rattle.std.proofs.lemmas.List.{length-set}
use Rattle.gm_core.specs.CoreViews.{row_at}
use Rattle.gm_core.proofs.CoreChanges.{read-is}
use Rattle.gm_core.proofs.RowReads.{delivered-is, square-set}
use Rattle.gm_core.proofs.effects.hand_over.Goals as goal

pub deliver-requires-clause-worker : goal.deliver-requires-clause-worker
deliver-requires-clause-worker c =
    let row : c.index_mut-outbox.result.now ≡ row_at c.args.unsent.now.items c.args.from = read-is c.args.unsent.now.items c.args.from c.index_mut-outbox.result.now [] c.requires.from c.index_mut-outbox.ensures.value in
    omega (arith, ap length row, c.requires.row)

pub deliver-requires-clause-some : goal.deliver-requires-clause-some
deliver-requires-clause-some c =
    let row : c.index_mut-outbox.result.now ≡ row_at c.args.unsent.now.items c.args.from = read-is c.args.unsent.now.items c.args.from c.index_mut-outbox.result.now [] c.requires.from c.index_mut-outbox.ensures.value in
    omega (arith, ap (λ r. length (row_at r c.args.to)) row, c.requires.some)

pub returns-clause-square : goal.returns-clause-square
returns-clause-square c = λ workers square.
    let row : c.index_mut-outbox.result.now ≡ row_at c.args.unsent.now.items c.args.from = read-is c.args.unsent.now.items c.args.from c.index_mut-outbox.result.now [] c.requires.from c.index_mut-outbox.ensures.value in
    square-set workers c.args.unsent.now.items c.args.from c.deliver.new.self c.requires.from square (ap length c.in_ok-deliver.ensures.rest ∙ length-set c.index_mut-outbox.result.now c.args.to _ ∙ ap length row)

pub returns-clause-mail : goal.returns-clause-mail
returns-clause-mail c =
    let row : c.index_mut-outbox.result.now ≡ row_at c.args.unsent.now.items c.args.from = read-is c.args.unsent.now.items c.args.from c.index_mut-outbox.result.now [] c.requires.from c.index_mut-outbox.ensures.value in
    let came : c.index_mut-came.result.now ≡ row_at c.args.incoming.now.items c.args.to = read-is c.args.incoming.now.items c.args.to c.index_mut-came.result.now [] c.requires.to c.index_mut-came.ensures.value in
    delivered-is c.args.unsent.now.items c.args.incoming.now.items c.args.from c.args.to c.args.count c.deliver.new.self c.deliver.new.incoming c.requires.from c.requires.row c.requires.to
    (c.in_ok-deliver.ensures.rest ∙ ap (λ r. slice_set r c.args.to (drop c.args.count (row_at r c.args.to))) row)
    (c.in_ok-deliver.ensures.delivered ∙ ap (λ l. l ++ take c.args.count (row_at c.index_mut-outbox.result.now c.args.to)) came ∙ ap (λ r. row_at c.args.incoming.now.items c.args.to ++ take c.args.count (row_at r c.args.to)) row)
