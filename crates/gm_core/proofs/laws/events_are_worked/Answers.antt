use Rattle.std.proofs.Common.{refl}
use Rattle.gm_core.proofs.laws.events_are_worked.Goals as goal

pub returns : goal.returns
returns c = record {
  legal = refl;
  end = refl;
  under_way = refl;
  in_order = refl;
  undelivered = refl;
  idle = refl;
  no_worker = refl;
  twice = refl;
  not_owned = refl;
  no_node = refl;
  nothing = refl;
  too_many = refl;
  no_receiver = refl;
  early = refl;
  past_the_end = refl;
}
