-- The passes up to the loops of the sequential phase together.
use Rattle.std.specs.Prelude.{◌≡◌, true}
use Rattle.gm_ast.specs.Program.{Program}
use Rattle.gm_forms.specs.Ready.{Ready0}
use Rattle.gm_typed_stores.specs.Tells.{tells_values}
use Rattle.gm_desugar.specs.Compounds.{without_compounds}
use Rattle.gm_desugar.specs.Conditions.{with_conditions}
use Rattle.gm_desugar.specs.Groups.{without_groups}
use Rattle.gm_desugar.specs.Literals.{with_negative_literals}
use Rattle.gm_desugar.specs.Reads.{with_reads_apart}
use Rattle.gm_reductions.specs.Accesses.{without_accesses}
use Rattle.gm_reductions.specs.Folds.{without_folds}
use Rattle.gm_reductions.specs.Keys.{all_rise}
use Rattle.gm_reductions.specs.Stages.{all_below}
use Rattle.gm_picks.specs.Picks.{with_plain_picks}
use Rattle.gm_hoisting.specs.Hoisting.{without_inner_folds}
use Rattle.gm_hoisting.specs.Throughout.{stands_throughout}

-- what the later passes ask for beside a form: the keys of each reduction of the sequential phase rise, and the program tells values alone
pub record HasTypedRuns (p : Program) : Type 0 where
  pub rising : all_rise p.body ≡ true
  pub tells : tells_values all_below p ≡ true

-- what the passes ask for together
pub record CanBeDesugared (p : Program) : Type 0 where
  pub ready : Ready0 p
  pub runs : HasTypedRuns p

-- a program after the passes that leave each read apart
abbrev pub with_reads_alone : Program → Program
with_reads_alone p = with_reads_apart (with_conditions (with_negative_literals (without_compounds (without_groups p))))

-- after the one that makes its picks onto scalars, besides
abbrev pub with_picks_alone : Program → Program
with_picks_alone p = with_plain_picks (with_reads_alone p)

-- and after those that make loops of its accesses and reductions
abbrev pub with_loops_alone : Program → Program
with_loops_alone p = without_folds (without_accesses (with_picks_alone p))

-- besides, where reductions of the parallel loops become inner loops: once each minus before a literal is a constant, the total of each reduction stands in order, also in what the passes make loops of
pub record CanBecomeLoops (p : Program) : Type 0 where
  pub can : CanBeDesugared p
  pub stands : stands_throughout (with_negative_literals p) ≡ true

-- a program after the passes that make loops of all its reductions
abbrev pub with_plain_loops : Program → Program
with_plain_loops p = without_inner_folds (with_loops_alone p)
