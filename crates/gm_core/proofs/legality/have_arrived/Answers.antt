-- One more worker has arrived, or has not.
use Rattle.std.proofs.Common.{◌≡◌, Bool, ℕ, true, false, length, sym, arith, rules}
use Rattle.std.specs.Prelude.{slice_index_or}
use Rattle.gm_core.proofs.LegalLemmas.{all-more, all-fails}
use Rattle.gm_core.proofs.legality.have_arrived.Goals as goal

pub returns-then-not-has_arrived : goal.returns-then-not-has_arrived
returns-then-not-has_arrived c =
    let test : ℕ → Bool = λ w. slice_index_or c.args.arrived.now w false in
    let fails : test c.loop-worker.worker ≡ false = search rules in
    sym (all-fails test (length c.args.arrived.now) c.loop-worker.worker (omega (arith, c.loop-worker-test.true)) fails)

pub loop-worker-preserved : goal.loop-worker-preserved
loop-worker-preserved c =
    let test : ℕ → Bool = λ w. slice_index_or c.args.arrived.now w false in
    let passes : test c.loop-worker.worker ≡ true = search rules in
    all-more test c.loop-worker.worker c.loop-worker.invariant passes
