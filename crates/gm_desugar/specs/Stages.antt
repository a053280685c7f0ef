-- What each pass gives to the next: a program that is ready for the compiler, without the constructs that were written in others.
use Rattle.std.specs.Prelude.{◌≡◌, true}
use Rattle.gm_ast.specs.Program.{Program}
use Rattle.gm_forms.specs.Ready.{Ready0}
use Rattle.gm_desugar.specs.Compounds.{has_no_compounds}
use Rattle.gm_desugar.specs.Conditions.{has_told_conditions}
use Rattle.gm_desugar.specs.Groups.{has_no_groups}
use Rattle.gm_desugar.specs.Literals.{all_exprs, has_literals}
use Rattle.gm_desugar.specs.Reads.{has_reads_apart}

-- no group assignment is left
pub record WithoutGroups (p : Program) : Type 0 where
  pub ready : Ready0 p
  pub no_groups : has_no_groups p.body ≡ true

-- besides, nothing is reduced at once but by picks
pub record WithoutCompounds (p : Program) : Type 0 where
  pub without_groups : WithoutGroups p
  pub no_compounds : has_no_compounds p.declarations p.body ≡ true

-- besides, no minus stands before a literal that could be a constant
pub record WithLiterals (p : Program) : Type 0 where
  pub without_compounds : WithoutCompounds p
  pub literals : all_exprs has_literals p.body ≡ true

-- besides, scalars and counts tell each condition of a sequential phase
pub record WithConditions (p : Program) : Type 0 where
  pub with_literals : WithLiterals p
  pub conditions : has_told_conditions p.body ≡ true

-- besides, each read of a sequential phase stands alone as the value of a scalar
pub record WithReadsApart (p : Program) : Type 0 where
  pub with_conditions : WithConditions p
  pub apart : has_reads_apart p.body ≡ true
