-- What holds of a program that breaks no rule of types, and of one that breaks no rule at all.
use Rattle.std.specs.Prelude.{◌≡◌, true}
use Rattle.gm_ast.specs.Canonical.{IsCanonical}
use Rattle.gm_ast.specs.Program.{Program}
use Rattle.gm_ast.specs.Procedures.{IsTyped}
use Rattle.gm_forms.specs.Order.{is_ordered}
use Rattle.gm_forms.specs.Ready.{is_checked, Ready0}
use Rattle.gm_forms.specs.Sharing.{is_race_free}
use Rattle.gm_forms.specs.Typing.{has_types}
use Rattle.gm_forms.specs.Uses.{is_named}
use Rattle.gm_ready.specs.Alike.{reduces_alike}
use Rattle.gm_ready.specs.Rising.{numbers_rise}
use Rattle.gm_ready.specs.Spelled.{is_spelled}

-- a program that breaks no rule of types names variables as they are declared
abbrev pub TypedIsNamed : Type 0
TypedIsNamed = (p : Program) → IsTyped p → is_named p ≡ true

-- the expressions of a program that breaks no rule of types have the types that they must have, where its constants are in range and only Min and Max have several targets
abbrev pub TypedHasTypes : Type 0
TypedHasTypes = (p : Program) → IsTyped p → is_spelled p ≡ true → has_types p ≡ true

-- the targets of each reduction of a program that breaks no rule of types are scalars, or properties through one variable, and none stands twice
abbrev pub TypedReducesAlike : Type 0
TypedReducesAlike = (p : Program) → IsTyped p → reduces_alike p ≡ true

-- the reductions of each parallel loop of a program that breaks no rule of types are taken under numbers that rise, where its faults stand in the order of its text
abbrev pub TypedNumbersRise : Type 0
TypedNumbersRise = (p : Program) → IsTyped p → is_ordered p ≡ true → numbers_rise p ≡ true

-- a program that breaks no rule of types, races and canonical form has the form of a checked program
abbrev pub CanonicalIsChecked : Type 0
CanonicalIsChecked = (p : Program) → IsCanonical p → is_checked p ≡ true

-- the parallel loops of a program that breaks no rule share what ends with them alone, where its faults stand in the order of its text
abbrev pub CanonicalIsRaceFree : Type 0
CanonicalIsRaceFree = (p : Program) → IsCanonical p → is_ordered p ≡ true → is_race_free p ≡ true

-- a program that breaks no rule is ready for the passes, where its constants are in range and only Min and Max have several targets, and its faults stand in the order of its text
abbrev pub CheckedIsReady : Type 0
CheckedIsReady = (p : Program) → IsCanonical p → is_spelled p ≡ true → is_ordered p ≡ true → Ready0 p
