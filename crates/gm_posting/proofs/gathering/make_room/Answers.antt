use Rattle.std.proofs.Common.{length, ap, arith}
use Rattle.std.proofs.lemmas.Result.{on_ok_weaker}
use Rattle.gm_posting.proofs.gathering.make_room.Goals as goal

pub returns-clause-room : goal.returns-clause-room
returns-clause-room g c =
    let few = c.requires.few_more in
    on_ok_weaker c.send_off.result (λ sent. omega (arith, few, ap (λ (l : _). length l) sent.1)) c.send_off.ensures
