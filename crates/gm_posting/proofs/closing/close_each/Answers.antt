use Rattle.std.proofs.Common.{◌-◌, ℕ, length, refl}
use Rattle.gm_posting.proofs.ClosingLemmas.{closed-none, left-has, closed-more, closed-all}
use Rattle.gm_posting.proofs.closing.close_each.Goals as goal

pub loop-done-init : goal.loop-done-init
loop-done-init g c = closed-none c.args.mailboxes.now c.args.rows.now c.args.late.now c.requires.count c.requires.full c.requires.empty

pub close_one-requires-clause-lasts : goal.close_one-requires-clause-lasts
close_one-requires-clause-lasts g c =
    left-has c.loop-done.done ((length c.args.rows.now - 1) - c.loop-done.done) c.args.mailboxes.now c.index-mailboxes-own.result c.args.rows.now c.loop-done.rows c.loop-done.late
    c.loop-done-test.true refl c.requires.count c.index-mailboxes-own.is c.requires.placed c.requires.full c.loop-done.invariant

pub loop-done-preserved : goal.loop-done-preserved
loop-done-preserved g c =
    let own : ℕ = (length c.args.rows.now - 1) - c.loop-done.done in
    closed-more c.loop-done.done own c.args.mailboxes.now c.args.rows.now c.loop-done.rows c.close_one.new.rows c.loop-done.late c.index-late-own.result c.close_one.new.late
    c.loop-done-test.true refl c.requires.count c.requires.full c.loop-done.invariant
    c.in_ok-close_one.ensures

pub returns : goal.returns
returns g c = closed-all c.args.rows.now c.loop-done.rows c.loop-done.late c.loop-done.done c.loop-done-test.false c.loop-done.invariant
