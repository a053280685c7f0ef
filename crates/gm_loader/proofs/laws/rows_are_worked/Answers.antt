use Rattle.std.proofs.Common.{refl}
use Rattle.gm_loader.proofs.laws.rows_are_worked.Goals as goal

pub returns : goal.returns
returns c = record {
  nothing = refl;
  edge = refl;
  snap = refl;
  node = refl;
  bad_line = refl;
  missing = refl;
  out_of_range = refl;
  node_twice = refl;
  many_nodes = refl;
  many_edges = refl;
  too_long = refl;
}
