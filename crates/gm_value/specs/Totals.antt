-- What a total of the code says of the bag of values that it stands for.
use Rattle.std.specs.Prelude.{◌≡◌, ◌^◌, ◌<◌, ◌≤◌, ℤ, pos, unsigned_abs, Bool, true, false, List, [], ◌∷◌}
use Rattle.gm_value.specs.declared.values.VType.{VType}
use Rattle.gm_value.specs.declared.values.Value.{Value}
use Rattle.gm_value.specs.declared.reductions.Reduce.{Reduce}
use Rattle.gm_value.specs.declared.reductions.Reduce.TheVariants.{Sum, Product, Min, Max, And, Or}
use Rattle.gm_value.specs.declared.totals.Total.{Total}
use Rattle.gm_value.specs.declared.totals.Total.TheVariants as totals
use Rattle.gm_value.specs.Numbers.{number_of, type_of}
use Rattle.gm_value.specs.Reductions.{combined, total}
use Rattle.gm_value.specs.Bag.{SameBag}

-- all members of a bag are numbers of at most 2 ^ 63 in magnitude, as each value of each type is
abbrev pub AreNear : List Value → Type 0
AreNear [] = Unit {0}
AreNear (v ∷ bag) = (unsigned_abs (number_of v) ≤ 2 ^ 63) × AreNear bag

-- a product is kept exactly while its magnitude is at most 2 ^ 63, and is else only known to be over it
abbrev pub IsProduct : ℤ → Bool → ℤ → Type 0
IsProduct value false exact = (value ≡ exact) × (unsigned_abs exact ≤ 2 ^ 63)
IsProduct value true exact = (value ≡ pos 0) × (2 ^ 63 < unsigned_abs exact)

-- a total of the code is a product that shows an exact number
abbrev pub IsProductTotal : Total → ℤ → Type 0
IsProductTotal (totals.Product value over) exact = IsProduct value over exact
IsProductTotal a exact = ⊥

-- a total of the code shows an exact number, whatever the types of its members are
abbrev pub Shows : Reduce → Total → ℤ → Type 0
Shows Sum (totals.Sum z) exact = z ≡ exact
Shows Product a exact = IsProductTotal a exact
Shows Min (totals.Small v) exact = number_of v ≡ exact
Shows Max (totals.Small v) exact = number_of v ≡ exact
Shows And (totals.Small v) exact = number_of v ≡ exact
Shows Or (totals.Small v) exact = number_of v ≡ exact
Shows r a exact = ⊥

-- a total of the code that is a value is one of a type
abbrev pub HasType : VType → Total → Type 0
HasType t (totals.Small v) = type_of v ≡ t
HasType t a = Unit {0}

-- a total of the code stands for a bag of values: it shows the bag's exact total, of which the type says the unit alone
abbrev pub IsTotal : Reduce → VType → Total → List Value → Type 0
IsTotal r t a bag = AreNear bag × Shows r a (total r t bag)

-- a total has room for one more member: a sum is at most 2 ^ 126 in magnitude, and a product at most 2 ^ 63
abbrev pub HasRoom : Total → Type 0
HasRoom (totals.Small v) = Unit {0}
HasRoom (totals.Sum z) = unsigned_abs z ≤ 2 ^ 126
HasRoom (totals.Product value over) = unsigned_abs value ≤ 2 ^ 63

-- whatever bag a total stands for, the new one stands for each bag that has one more member, in any order
abbrev pub AddsMember : Reduce → Total → Value → Total → Type 0
AddsMember r a b new = (t : VType) (bag more : List Value) → IsTotal r t a bag → SameBag more (b ∷ bag) → IsTotal r t new more

-- whatever number a total shows, the new one shows that number combined with one more
abbrev pub ShowsMore : Reduce → Total → ℤ → Total → Type 0
ShowsMore r a number new = (exact : ℤ) → Shows r a exact → Shows r new (combined r number exact)
