-- The definitions on rows worked by hand.
use Rattle.std.proofs.Common.{◌≡◌, ℕ, true, false, [], ◌∷◌, refl}
use Rattle.gm_value.specs.declared.values.Value.TheVariants.{Flag}
use Rattle.gm_image.specs.Program.{SetField, Skip, Each, Out}
use Rattle.gm_image.specs.Term.{Term, Const}
use Rattle.gm_batch_steps.specs.LineRuns.{stays}
use Rattle.gm_batch_steps.specs.Parts.{with_part, with_parts}

abbrev always : Term
always = Const (Flag true)

-- a line leaves out two lines, of which there are two, one inside another, and one
two : stays (Skip 2 always ∷ SetField 0 always ∷ SetField 1 always ∷ []) ≡ true
two = refl

inside : stays (Skip 2 always ∷ Skip 1 always ∷ SetField 1 always ∷ []) ≡ true
inside = refl

too_many : stays (Skip 2 always ∷ SetField 0 always ∷ []) ≡ false
too_many = refl

each_too : stays (Each Out 1 ∷ []) ≡ false
each_too = refl

-- parts of lists that are exchanged
part : with_part {A = ℕ} 1 (1 ∷ 2 ∷ 3 ∷ 4 ∷ []) (7 ∷ 8 ∷ []) ≡ 1 ∷ 7 ∷ 8 ∷ 4 ∷ []
part = refl

nothing : with_part {A = ℕ} 2 (1 ∷ 2 ∷ 3 ∷ []) [] ≡ 1 ∷ 2 ∷ 3 ∷ []
nothing = refl

parts : with_parts {A = ℕ} 1 ((1 ∷ 2 ∷ []) ∷ (3 ∷ 4 ∷ []) ∷ []) ((7 ∷ []) ∷ (8 ∷ []) ∷ []) ≡ (1 ∷ 7 ∷ []) ∷ (3 ∷ 8 ∷ []) ∷ []
parts = refl
