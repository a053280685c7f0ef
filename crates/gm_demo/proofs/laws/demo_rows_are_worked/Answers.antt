use Rattle.std.proofs.Common.{refl}
use Rattle.gm_demo.proofs.laws.demo_rows_are_worked.Goals as goal

pub returns : goal.returns
returns c = record {
  begins = refl;
  held_of_one = refl;
  held_of_three = refl;
  first_draw = refl;
  second_draw = refl;
  fourth_draw = refl;
  first_of_one = refl;
  last_of_one = refl;
  first_of_three = refl;
  second_of_three = refl;
  last_of_three = refl;
  reached = refl;
  none_reached = refl;
  farthest = refl;
  farthest_below = refl;
  farthest_of_none = refl;
}
