-- What a walk over an inner body has.
use Rattle.gm_ast.specs.Tree.{expr_of}
use Rattle.gm_slices.specs.declared.slices.Nest as Loops
use Rattle.gm_slices.specs.SliceWalks.{Nest}

-- a loop and its inner loop, as the code has them
abbrev pub nest_of : Loops.Nest → Nest
nest_of n = record {
  key = n.around.key;
  place = n.around.place;
  head = n.around.head;
  mask = expr_of n.mask;
  inner_key = n.within.key;
  inner_place = n.within.place;
  inner_head = n.within.head;
  test = expr_of n.test;
}
