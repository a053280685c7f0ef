-- What a reduction's loop gives for the members of its bag: a count's one is of the total's type.
use Rattle.std.proofs.Common.{◌≡◌, Bool, true, false, List, [], ◌∷◌, ◌++◌, map, refl, ap, ◌∙◌, Ok}
use Rattle.std.specs.Prelude.{pos, if◌then◌else◌}
use Rattle.gm_value.specs.declared.reductions.Reduce.{Reduce}
use Rattle.gm_value.specs.declared.reductions.Reduce.TheVariants as R
use Rattle.gm_value.specs.declared.values.VType.{VType}
use Rattle.gm_value.specs.declared.values.VType.TheVariants as V
use Rattle.gm_value.specs.declared.values.Value.{Value}
use Rattle.gm_value.specs.declared.values.Value.TheVariants.{I32}
use Rattle.gm_value.specs.Numbers.{number_of, value_at}
use Rattle.gm_value.specs.Operations.{is_true}
use Rattle.gm_value.specs.Reductions.{unit_of, combined, total, close}
use Rattle.gm_ast.specs.declared.surface.ReductionWord.{ReductionWord}
use Rattle.gm_ast.specs.declared.surface.ReductionWord.TheVariants as W
use Rattle.gm_semantics.specs.Expressions.{members_of}

-- over nothing a unit stays as it is
pub unit-stays : (r : Reduce) (t : VType) → close r (value_at t (unit_of r t)) [] ≡ Ok (value_at t (unit_of r t))
unit-stays R.Sum V.I32 = refl
unit-stays R.Sum V.I64 = refl
unit-stays R.Sum V.Flag = refl
unit-stays R.Sum V.Node = refl
unit-stays R.Product V.I32 = refl
unit-stays R.Product V.I64 = refl
unit-stays R.Product V.Flag = refl
unit-stays R.Product V.Node = refl
unit-stays R.Min V.I32 = refl
unit-stays R.Min V.I64 = refl
unit-stays R.Min V.Flag = refl
unit-stays R.Min V.Node = refl
unit-stays R.Max V.I32 = refl
unit-stays R.Max V.I64 = refl
unit-stays R.Max V.Flag = refl
unit-stays R.Max V.Node = refl
unit-stays R.And V.I32 = refl
unit-stays R.And V.I64 = refl
unit-stays R.And V.Flag = refl
unit-stays R.And V.Node = refl
unit-stays R.Or V.I32 = refl
unit-stays R.Or V.I64 = refl
unit-stays R.Or V.Flag = refl
unit-stays R.Or V.Node = refl

one-number : (t : VType) → number_of (value_at t (pos 1)) ≡ pos 1
one-number V.I32 = refl
one-number V.I64 = refl
one-number V.Flag = refl
one-number V.Node = refl

abbrev pub lent : ReductionWord → VType → Value → Value
lent W.Count t v = value_at t (pos 1)
lent word t v = v

-- lent with the same number
abbrev pub SameNumbers : ReductionWord → VType → List Value → Type 0
SameNumbers word t [] = Unit {0}
SameNumbers word t (v ∷ vs) = (number_of (lent word t v) ≡ number_of v) × SameNumbers word t vs

pub numbers-append : (word : ReductionWord) (t : VType) (xs ys : List Value) → SameNumbers word t xs → SameNumbers word t ys → SameNumbers word t (xs ++ ys)
numbers-append word t [] ys h k = k
numbers-append word t (x ∷ xs) ys h k = (h.0, numbers-append word t xs ys h.1 k)

pub members-same : (word : ReductionWord) (t : VType) (v : Value) → SameNumbers word t (members_of word v)
members-same W.Count t v = by (is_true v)
  where
    by : (b : Bool) → SameNumbers W.Count t (if b then I32 (pos 1) ∷ [] else [])
    by true = (one-number t, tt)
    by false = tt
members-same W.Sum t v = (refl, tt)
members-same W.Product t v = (refl, tt)
members-same W.Min t v = (refl, tt)
members-same W.Max t v = (refl, tt)
members-same W.Exist t v = (refl, tt)
members-same W.All t v = (refl, tt)

pub total-lent : (r : Reduce) (u : VType) (word : ReductionWord) (t : VType) (bag : List Value) → SameNumbers word t bag → total r u (map (lent word t) bag) ≡ total r u bag
total-lent r u word t [] h = refl
total-lent r u word t (v ∷ bag) h = ap (λ z. combined r z (total r u (map (lent word t) bag))) h.0 ∙ ap (combined r (number_of v)) (total-lent r u word t bag h.1)
