-- What is known of the reductions of parallel bodies as loops.
use Rattle.std.specs.Prelude.{◌≡◌, true}
use Rattle.gm_ast.specs.Program.{Program}
use Rattle.gm_forms.specs.Meanings.{SameMeaning}
use Rattle.gm_forms.specs.Ready.{is_checked}
use Rattle.gm_forms.specs.Uses.{is_named}
use Rattle.gm_hoisting.specs.Hoisting.{without_inner_folds}
use Rattle.gm_hoisting.specs.Stages.{CanBeHoisted, WithoutInnerFolds}
use Rattle.gm_hoisting.specs.Totals.{totals_stand}

-- a program of the checked form means the same, where its variables stand in the table as they are used and the totals of its reductions stand in order
abbrev pub MeanTheSame : Type 0
MeanTheSame = (p : Program) → is_named p ≡ true → is_checked p ≡ true → totals_stand p ≡ true → SameMeaning p (without_inner_folds p)

-- a program that was ready still is, and no reduction is left in its loops and searches
abbrev pub StayReady : Type 0
StayReady = (p : Program) → CanBeHoisted p → WithoutInnerFolds (without_inner_folds p)
