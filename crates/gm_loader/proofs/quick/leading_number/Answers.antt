use Rattle.std.proofs.Common.{arith}
use Rattle.gm_loader.proofs.quick.leading_number.Goals as goal

pub returns : goal.returns
returns c = record {
  some = omega (arith);
  within = omega (arith, c.in_ok-digits.ensures.within);
  digits = c.in_ok-digits.ensures.digits;
  spelled = c.in_ok-digits.ensures.spelled;
  small = c.in_ok-digits.ensures.small;
}
