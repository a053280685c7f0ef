-- What each pass gives to the next.
use Rattle.std.specs.Prelude.{◌≡◌, ℕ, true}
use Rattle.gm_ast.specs.Program.{Program}
use Rattle.gm_desugar.specs.Stages.{WithReadsApart}
use Rattle.gm_reductions.specs.Accesses.{has_no_accesses}
use Rattle.gm_reductions.specs.Folds.{has_no_folds}
use Rattle.gm_reductions.specs.Keys.{all_rise}
use Rattle.gm_typed_stores.specs.Tells.{tells_values}

-- each read stands alone, and the keys of each reduction of the sequential phase rise
pub record WithRisingKeys (p : Program) : Type 0 where
  pub with_reads_apart : WithReadsApart p
  pub rising : all_rise p.body ≡ true

-- a limit below which each node of each type is
abbrev pub all_below : ℕ
all_below = 4294967296

-- besides, the program tells values alone, so that in its runs each value is of its type
pub record WithTypedRuns (p : Program) : Type 0 where
  pub with_rising_keys : WithRisingKeys p
  pub tells : tells_values all_below p ≡ true

-- besides, the sequential phase reads and writes nothing through node variables but in reductions and loops over all nodes
pub record WithoutAccesses (p : Program) : Type 0 where
  pub with_typed_runs : WithTypedRuns p
  pub no_accesses : has_no_accesses p.body ≡ true

-- no reduction is left in the sequential phase
pub record WithoutFolds (p : Program) : Type 0 where
  pub with_reads_apart : WithReadsApart p
  pub no_folds : has_no_folds p.body ≡ true

-- besides, neither a reduction nor an access: scalars and counts tell all that a sequential phase sets outside of loops, or it is the check of a node
pub record WithLoopsAlone (p : Program) : Type 0 where
  pub without_folds : WithoutFolds p
  pub no_accesses : has_no_accesses p.body ≡ true
