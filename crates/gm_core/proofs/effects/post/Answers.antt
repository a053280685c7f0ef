-- A worker's row gets what its node sent.
use Rattle.std.proofs.Common.{◌≡◌, ◌<◌, ◌∙◌, ◌++◌, [], length, ap, arith}
use Rattle.gm_core.specs.Cores.{for_worker}
use Rattle.gm_core.specs.CoreViews.{row_at}
use Rattle.gm_core.proofs.CoreChanges.{read-is}
use Rattle.gm_core.proofs.RowReads.{sent-is, square-set}
use Rattle.gm_core.proofs.effects.post.Goals as goal

pub deal-requires : goal.deal-requires
deal-requires c = λ n.
    let within : c.args.worker < length c.args.unsent.now.items = omega (arith, c.requires.square.long, c.requires.worker) in
    let row : c.index_mut-outbox.result.now ≡ row_at c.args.unsent.now.items c.args.worker = read-is c.args.unsent.now.items c.args.worker c.index_mut-outbox.result.now [] within c.index_mut-outbox.ensures.value in
    omega (arith, c.requires.setting.dealt.each n, ap length row, c.requires.square.each c.args.worker c.requires.worker)

pub returns-clause-square : goal.returns-clause-square
returns-clause-square c =
    let within : c.args.worker < length c.args.unsent.now.items = omega (arith, c.requires.square.long, c.requires.worker) in
    let row : c.index_mut-outbox.result.now ≡ row_at c.args.unsent.now.items c.args.worker = read-is c.args.unsent.now.items c.args.worker c.index_mut-outbox.result.now [] within c.index_mut-outbox.ensures.value in
    square-set c.args.setting.now.workers c.args.unsent.now.items c.args.worker c.deal.new.outbox within c.requires.square (c.in_ok-deal.ensures.wide ∙ ap length row)

pub returns-clause-mail : goal.returns-clause-mail
returns-clause-mail c = λ incoming.
    let within : c.args.worker < length c.args.unsent.now.items = omega (arith, c.requires.square.long, c.requires.worker) in
    let row : c.index_mut-outbox.result.now ≡ row_at c.args.unsent.now.items c.args.worker = read-is c.args.unsent.now.items c.args.worker c.index_mut-outbox.result.now [] within c.index_mut-outbox.ensures.value in
    sent-is c.args.setting.now.owners.now c.args.worker c.args.messages.now c.args.unsent.now.items incoming c.deal.new.outbox within
    (λ to. c.in_ok-deal.ensures.each to ∙ ap (λ r. row_at r to ++ for_worker c.args.setting.now.owners.now to c.args.messages.now) row)
