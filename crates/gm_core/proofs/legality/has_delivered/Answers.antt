-- Nothing waits for one more worker, or something does.
use Rattle.std.proofs.Common.{◌≡◌, ◌≢◌, Bool, ℕ, nat_eq, length, sym, arith}
use Rattle.std.proofs.lemmas.Bool.{eq-eqb, ne_eqb}
use Rattle.gm_core.specs.CoreViews.{row_at}
use Rattle.gm_core.proofs.LegalLemmas.{all-more, all-fails}
use Rattle.gm_core.proofs.legality.has_delivered.Goals as goal

pub returns-then-more-ne0 : goal.returns-then-more-ne0
returns-then-more-ne0 c =
    let test : ℕ → Bool = λ to. nat_eq (length (row_at c.args.outbox.now to)) 0 in
    let some : length (row_at c.args.outbox.now c.loop-to.to) ≢ 0 = omega (arith, c.waiting_for-more.ensures, c.if-more-ne0.true) in
    sym (all-fails test (length c.args.outbox.now) c.loop-to.to (omega (arith, c.loop-to-test.true, c.workers-to-end.ensures)) (ne_eqb (length (row_at c.args.outbox.now c.loop-to.to)) 0 some))

pub loop-to-preserved : goal.loop-to-preserved
loop-to-preserved c =
    let test : ℕ → Bool = λ to. nat_eq (length (row_at c.args.outbox.now to)) 0 in
    let none : length (row_at c.args.outbox.now c.loop-to.to) ≡ 0 = omega (arith, c.waiting_for-more.ensures, c.if-more-ne0.false) in
    all-more test c.loop-to.to c.loop-to.invariant (eq-eqb (length (row_at c.args.outbox.now c.loop-to.to)) 0 none)
