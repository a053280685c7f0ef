use Rattle.std.proofs.Common.{◌≡◌, ap, length, arith}
use Rattle.gm_store.proofs.Reversing.{Reversible-trans}
use Rattle.gm_store.proofs.store.Store.roll_back.Goals as goal

pub loop-self-preserved : goal.loop-self-preserved
loop-self-preserved c =
    let same : length c.self.inside.undo.items ≡ length c.loop-self.self.undo = ap (λ h. length h.undo) c.self.view_is in
    record {
      reaches = omega (arith, same, c.in_ok-take_back_last.ensures.shorter, c.loop-self-test.true, c.len.ensures);
      course = Reversible-trans c.take_back_last.new.self c.loop-self.self c.args.self.now c.in_ok-take_back_last.ensures.course c.loop-self.invariant.course;
    }

pub returns-in_err-take_back_last-clause-course : goal.returns-in_err-take_back_last-clause-course
returns-in_err-take_back_last-clause-course c =
    Reversible-trans c.take_back_last.new.self c.loop-self.self c.args.self.now c.in_err-take_back_last.ensures.course c.loop-self.invariant.course
