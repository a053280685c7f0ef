-- Programs whose loops may be written as the loops of the pieces of their bodies.
use Rattle.std.specs.Prelude.{◌≡◌, true}
use Rattle.gm_ast.specs.Program.{Program}
use Rattle.gm_dissect.specs.AllDeferred.{has_no_deferred}
use Rattle.gm_parting.specs.InnerLoops.{has_inner_loops_apart, has_iterators_in_place}
use Rattle.gm_parting.specs.Lasting.{has_lasting_filters, has_lasting_conditions}
use Rattle.gm_parting.specs.Staying.{has_staying_locals}
use Rattle.gm_parting.specs.Tuples.{has_even_tuples}

-- no loop defers a write, and each that is not of own statements has a filter and conditions that last, locals that stay within a piece, inner loops that stand apart, even tuples, and iterators that are declared where they stand
pub record IsPrepared (p : Program) : Type 0 where
  pub none : has_no_deferred p ≡ true
  pub filters : has_lasting_filters p ≡ true
  pub conditions : has_lasting_conditions p ≡ true
  pub locals : has_staying_locals p ≡ true
  pub inners : has_inner_loops_apart p ≡ true
  pub tuples : has_even_tuples p ≡ true
  pub iterators : has_iterators_in_place p ≡ true
