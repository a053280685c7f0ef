-- One more message of the range is taken.
use Rattle.std.proofs.Common.{◌<◌, length, arith}
use Rattle.gm_machine.proofs.Messages.{range-more}
use Rattle.gm_machine.proofs.batches.part.Goals as goal

pub loop-i-preserved : goal.loop-i-preserved
loop-i-preserved c =
    let within : c.loop-i.i < length c.args.messages.now = omega (arith, c.loop-i-test.true, c.requires.within) in
    record {
      ahead = omega (arith, c.loop-i.invariant.ahead);
      taken = range-more c.args.messages.now c.loop-i.some c.add_from.new.self c.args.from c.loop-i.i c.loop-i.invariant.ahead within c.loop-i.invariant.taken c.in_ok-add_from.ensures.added;
    }
