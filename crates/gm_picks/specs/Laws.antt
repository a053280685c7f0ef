-- What is known of a program with its picks onto scalars.
use Rattle.std.specs.Prelude.{◌≡◌, true}
use Rattle.gm_ast.specs.Program.{Program}
use Rattle.gm_desugar.specs.Compounds.{has_no_compounds}
use Rattle.gm_forms.specs.Meanings.{SameMeaning}
use Rattle.gm_forms.specs.Uses.{is_named}
use Rattle.gm_reductions.specs.Stages.{WithTypedRuns}
use Rattle.gm_picks.specs.Picks.{with_plain_picks, has_plain_picks}

-- a program whose variables stand in the table as they are used, and in which nothing is reduced at once but by picks, means the same with its picks onto scalars
abbrev pub PicksMeanTheSame : Type 0
PicksMeanTheSame = (p : Program) → is_named p ≡ true → has_no_compounds p.declarations p.body ≡ true → SameMeaning p (with_plain_picks p)

-- what the accesses of a program ask for, with each pick onto scalars, of what scalars and counts tell
pub record WithPlainPicks (p : Program) : Type 0 where
  pub with_typed_runs : WithTypedRuns p
  pub plain : has_plain_picks p.body ≡ true

-- a program that was ready for the next pass still is, and its picks are so
abbrev pub PicksStayReady : Type 0
PicksStayReady = (p : Program) → WithTypedRuns p → WithPlainPicks (with_plain_picks p)
