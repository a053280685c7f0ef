-- Contributions as the code holds them: a row of parts, one for each slot.
use Rattle.std.specs.Prelude.{ℕ, zero, suc, ◌≤◌, Result, Ok, Err, List, [], ◌∷◌, map, length, take}
use Rattle.gm_value.specs.declared.reductions.Reduce.{Reduce}
use Rattle.gm_image.specs.Program.{Target}
use Rattle.gm_machine.specs.declared.faults.Fault.{Fault}
use Rattle.gm_machine.specs.declared.contributions.ContributionPart.{ContributionPart}
use Rattle.gm_machine.specs.Faults.{then_go}
use Rattle.gm_machine.specs.Expressions.{View, value}
use Rattle.gm_machine.specs.Taking.{Contribution}

-- the contribution of a first part and all parts
abbrev pub contribution_of : ContributionPart → List ContributionPart → Contribution
contribution_of first parts = record {
  place = first.place;
  reduce = first.reduce;
  slots = map (λ p. p.slot) parts;
  values = map (λ p. p.value) parts;
}

-- a contribution of so many parts before others; none begins with a part whose width is 0
abbrev pub begins : ℕ → ContributionPart → List ContributionPart → List Contribution → List Contribution
begins zero first parts contributions = contributions
begins (suc more) first parts contributions = contribution_of first (first ∷ take more parts) ∷ contributions

-- the contributions that parts stand for
abbrev pub contributions_of : List ContributionPart → List Contribution
contributions_of [] = []
contributions_of (p ∷ parts) = begins p.width p parts (contributions_of parts)

-- each contribution has all of its parts
abbrev pub AreWhole : List ContributionPart → Type 0
AreWhole [] = Unit {0}
AreWhole (p ∷ parts) = (p.width ≤ suc (length parts)) × AreWhole parts

-- the parts that targets give, the first of so much width, or the first fault of their expressions
abbrev pub gives_parts : View → Reduce → ℕ → ℕ → List Target → Result (List ContributionPart) Fault
gives_parts w reduce place width [] = Ok []
gives_parts w reduce place width (t ∷ targets) =
    then_go (value w t.term) (λ v. then_go (gives_parts w reduce place 0 targets) (λ parts.
    Ok (record { place = place; reduce = reduce; width = width; slot = t.slot; value = v } ∷ parts)))
