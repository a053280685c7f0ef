-- What each of the passes keeps for those that follow, and what a program that breaks no rule of types has.
use Rattle.std.specs.Prelude.{◌≡◌, true}
use Rattle.gm_ast.specs.Procedures.{IsTyped}
use Rattle.gm_ast.specs.Program.{Program}
use Rattle.gm_desugar.specs.Compounds.{without_compounds}
use Rattle.gm_desugar.specs.Conditions.{with_conditions}
use Rattle.gm_desugar.specs.Groups.{without_groups}
use Rattle.gm_desugar.specs.Literals.{with_negative_literals}
use Rattle.gm_desugar.specs.Reads.{with_reads_apart}
use Rattle.gm_forms.specs.Ready.{Ready0}
use Rattle.gm_reductions.specs.Keys.{all_rise}
use Rattle.gm_reductions.specs.Accesses.{without_accesses}
use Rattle.gm_reductions.specs.Folds.{without_folds}
use Rattle.gm_reductions.specs.Stages.{WithRisingKeys}
use Rattle.gm_picks.specs.Picks.{with_plain_picks}
use Rattle.gm_hoisting.specs.Throughout.{stands_throughout}
use Rattle.gm_desugaring.specs.Desugaring.{HasTypedRuns}

-- the passes before the one that asks for it keep that runs have types
abbrev pub KeepsTypedRuns : (Program → Program) → Type 0
KeepsTypedRuns pass = (p : Program) → Ready0 p → HasTypedRuns p → HasTypedRuns (pass p)

pub record PassesKeepTypedRuns : Type 0 where
  pub groups : KeepsTypedRuns without_groups
  pub compounds : KeepsTypedRuns without_compounds
  pub literals : KeepsTypedRuns with_negative_literals
  pub conditions : KeepsTypedRuns with_conditions
  pub reads : KeepsTypedRuns with_reads_apart

-- whether all totals stand in order once each minus before a literal is a constant
abbrev pub StandsWithLiterals : Program → Type 0
StandsWithLiterals p = stands_throughout (with_negative_literals p) ≡ true

-- a pass keeps that they stand
abbrev pub KeepsTotals : (Program → Program) → Type 0
KeepsTotals pass = (p : Program) → stands_throughout p ≡ true → stands_throughout (pass p) ≡ true

-- the passes before the one that makes inner loops of reductions do: those before the one of literals where these will be constants, and those behind it
pub record PassesKeepTotals : Type 0 where
  pub groups : (p : Program) → StandsWithLiterals p → StandsWithLiterals (without_groups p)
  pub compounds : (p : Program) → StandsWithLiterals p → StandsWithLiterals (without_compounds p)
  pub conditions : KeepsTotals with_conditions
  pub reads : KeepsTotals with_reads_apart
  pub picks : KeepsTotals with_plain_picks
  pub accesses : KeepsTotals without_accesses
  pub folds : (p : Program) → WithRisingKeys p → stands_throughout p ≡ true → stands_throughout (without_folds p) ≡ true

-- in a program that breaks no rule of types the keys of each reduction of the sequential phase rise
abbrev pub TypedRises : Type 0
TypedRises = (p : Program) → IsTyped p → all_rise p.body ≡ true
