use Rattle.std.proofs.Common.{refl}
use Rattle.gm_mtx.proofs.laws.rows_are_worked.Goals as goal

pub returns : goal.returns
returns c = record {
  nothing = refl;
  weights = refl;
  pattern = refl;
  unread = refl;
  four_fields = refl;
  symmetric = refl;
  no_size = refl;
  missing = refl;
  second_value = refl;
  row_zero = refl;
  column_above = refl;
  one_too_many = refl;
  one_too_few = refl;
  many_nodes = refl;
  many_edges = refl;
  too_long = refl;
  printed = refl;
}
