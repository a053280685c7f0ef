-- What hoisting asks for, and what it gives to the next pass.
use Rattle.std.specs.Prelude.{◌≡◌, true, []}
use Rattle.gm_ast.specs.Program.{Program}
use Rattle.gm_forms.specs.Ready.{Ready0}
use Rattle.gm_hoisting.specs.Hoisting.{count_phase}
use Rattle.gm_hoisting.specs.Totals.{can_be_hoisted}

-- a program that is ready, whose reductions stand so that their loops keep the order of faults
pub record CanBeHoisted (p : Program) : Type 0 where
  pub ready : Ready0 p
  pub stands : can_be_hoisted p ≡ true

-- a program that is ready, in whose loops and searches no reduction is left
pub record WithoutInnerFolds (p : Program) : Type 0 where
  pub ready : Ready0 p
  pub none : count_phase [] p.body ≡ 0
