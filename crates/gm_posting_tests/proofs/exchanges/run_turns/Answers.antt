use Rattle.std.proofs.Common.{arith}
use Rattle.std.proofs.lemmas.Result.{on_ok_weaker}
use Rattle.gm_posting_tests.proofs.exchanges.run_turns.Goals as goal

pub returns : goal.returns
returns g c =
    let long = c.run_all.auto.turns in
    on_ok_weaker c.run_all.result (λ done i d low. c.run_all.ensures.ran i d low (done i d (omega arith))) c.run_all.ensures.ok
