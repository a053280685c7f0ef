-- One more entry.
use Rattle.std.proofs.Common.{◌≡◌, ◌≤◌, pos, map, length, sym, arith}
use Rattle.gm_value.specs.declared.values.Value.{Value}
use Rattle.gm_value.specs.declared.values.Value.TheVariants.{I32}
use Rattle.gm_value.specs.Numbers.{number_of}
use Rattle.gm_value.specs.Tuples.{values_at}
use Rattle.gm_machine.proofs.TargetSteps.{keep-more, keep-none, keep-all}
use Rattle.gm_machine.proofs.settling.keep_types.Goals as goal

abbrev d : Value
d = I32 (pos 0)

pub loop-i-preserved : goal.loop-i-preserved
loop-i-preserved c =
    keep-more c.args.held.now c.args.tuple.now c.loop-i.kept.items c.push.new.self.items c.loop-i.i d c.in-Ok.v (values_at c.args.held.now (map number_of c.args.tuple.now)) c.loop-i-test.true
    c.in-Ok.ensures c.in_ok-push-in-Ok.ensures.items c.loop-i.invariant

pub returns-in-Err : goal.returns-in-Err
returns-in-Err c =
    keep-none c.args.held.now c.args.tuple.now c.loop-i.kept.items c.loop-i.i d c.in-Err.field-0 (values_at c.args.held.now (map number_of c.args.tuple.now)) c.loop-i-test.true c.in-Err.ensures c.loop-i.invariant

pub returns : goal.returns
returns c =
    let end : length c.args.held.now ≤ c.loop-i.i = omega (arith, c.loop-i-test.false) in
    keep-all c.args.held.now c.args.tuple.now c.loop-i.kept.items c.loop-i.i (values_at c.args.held.now (map number_of c.args.tuple.now)) end c.loop-i.invariant
