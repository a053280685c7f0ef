-- The passes up to loops that vertices can run, one after another, and what a program must have for them.
use Rattle.std.specs.Prelude.{◌≡◌, true}
use Rattle.gm_ast.specs.Procedures.{IsTyped}
use Rattle.gm_ast.specs.Program.{Program}
use Rattle.gm_desugaring.specs.Desugaring.{CanBecomeLoops, with_plain_loops}
use Rattle.gm_bfs.specs.Levelled.{levelled}
use Rattle.gm_cut.specs.Lean.{has_slices_that_go}
use Rattle.gm_cut.specs.Parts.{in_pieces}
use Rattle.gm_parting.specs.Apart.{with_statements_apart}
use Rattle.gm_parting.specs.Passes.{prepared, dissected}
use Rattle.gm_parting.specs.Tuples.{has_even_tuples}
use Rattle.gm_flip.specs.Flipped.{without_pulls}
use Rattle.gm_outward.specs.Outward.{outward}

-- a program with plain loops, its searches as loops over levels
abbrev pub with_levels : Program → Program
with_levels p = levelled (with_plain_loops p)

-- whose loops are cut then, none of which pulls, and each of which asks at its node what it can before it looks at edges
abbrev pub parted : Program → Program
parted p = outward (without_pulls (dissected (with_levels p)))

-- what the program of an accepted text has, and besides, the targets of its reductions are declared inside as many loops, and each slice of an inner loop goes one way
pub record CanBeParted (p : Program) : Type 0 where
  pub loops : CanBecomeLoops p
  pub typed : IsTyped p
  pub tuples : has_even_tuples (with_levels p) ≡ true
  pub slices : has_slices_that_go (with_statements_apart (in_pieces (prepared (with_levels p)))) ≡ true
