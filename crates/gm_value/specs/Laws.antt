-- The laws of operations, reductions, totals and taking.
use Rattle.std.specs.Prelude.{◌≡◌, ◌≢◌, ◌^◌, ◌<◌, ◌≤◌, ◌≤ℤ◌, ℕ, ℤ, pos, ◌+ℤ◌, ◌*ℤ◌, int_div, int_rem, unsigned_abs, IsTrue, List, [], ◌∷◌, length, map, Option, Some, None, Ok, IfOk}
use Rattle.gm_value.specs.declared.values.VType.{VType}
use Rattle.gm_value.specs.declared.values.Value.{Value}
use Rattle.gm_value.specs.declared.operations.Op1.{Op1}
use Rattle.gm_value.specs.declared.operations.Op2.{Op2}
use Rattle.gm_value.specs.declared.operations.Op2.TheVariants.{Add, Mul}
use Rattle.gm_value.specs.declared.reductions.Reduce.{Reduce}
use Rattle.gm_value.specs.declared.reductions.Reduce.TheVariants.{Sum, Product}
use Rattle.gm_value.specs.declared.totals.Total.{Total}
use Rattle.gm_value.specs.Numbers.{type_of, fits, IsOf}
use Rattle.gm_value.specs.Operations.{result1, result2, type1, type2}
use Rattle.gm_value.specs.Bag.{SameBag}
use Rattle.gm_value.specs.Reductions.{combined, unit_of, total, close, picks}
use Rattle.gm_value.specs.Totals.{IsTotal, HasType, HasRoom}
use Rattle.gm_value.specs.Tuples.{kept, best, with_value, close_slots}
use Rattle.gm_value.specs.Taking.{of_rank, then_take, taken, before, from_on, TakesBags, AreBelow, rank_by, KeepsOrder}

-- an operation on a value gives a value of its result's type
abbrev pub KeepsType1 : Type 0
KeepsType1 = (op : Op1) (a : Value) → IsOf (type_of a) a → IfOk (result1 op a) (IsOf (type1 op (type_of a)))

-- an operation on two values gives a value of its result's type
abbrev pub KeepsType2 : Type 0
KeepsType2 = (op : Op2) (a b : Value) → IfOk (result2 op a b) (IsOf (type2 op (type_of a)))

-- a closing gives a value of the held value's type
abbrev pub ClosingKeepsType : Type 0
ClosingKeepsType = (r : Reduce) (held : Value) (bag : List Value) → IfOk (close r held bag) (IsOf (type_of held))

-- quotient times divisor with the remainder is the dividend
abbrev pub QuotientAndRemainder : Type 0
QuotientAndRemainder = (x y : ℤ) → (int_div x y *ℤ y) +ℤ int_rem x y ≡ x

-- a remainder is nearer to 0 than its divisor
abbrev pub RemainderIsSmall : Type 0
RemainderIsSmall = (x y : ℤ) → y ≢ pos 0 → unsigned_abs (int_rem x y) < unsigned_abs y

-- a remainder is on its dividend's side of 0
abbrev pub RemainderHasSign : Type 0
RemainderHasSign = (x y : ℤ) → (pos 0 ≤ℤ x → pos 0 ≤ℤ int_rem x y) × (x ≤ℤ pos 0 → int_rem x y ≤ℤ pos 0)

-- a reduction is associative
abbrev pub IsAssociative : Reduce → Type 0
IsAssociative r = (a b c : ℤ) → combined r (combined r a b) c ≡ combined r a (combined r b c)

-- a reduction is commutative
abbrev pub IsCommutative : Reduce → Type 0
IsCommutative r = (a b : ℤ) → combined r a b ≡ combined r b a

-- a type's unit leaves each number of the type as it is, and is one
abbrev pub HasUnit : Reduce → Type 0
HasUnit r = (t : VType) → IsTrue (fits t (unit_of r t)) × ((z : ℤ) → IsTrue (fits t z) → combined r (unit_of r t) z ≡ z)

-- a reduction that picks stays in a type's range
abbrev pub StaysInRange : Reduce → Type 0
StaysInRange r = (t : VType) (a b : ℤ) → IsTrue (picks r) → IsTrue (fits t a) → IsTrue (fits t b) → IsTrue (fits t (combined r a b))

-- a total does not depend on the order of its bag
abbrev pub TotalTakesBags : Type 0
TotalTakesBags = (r : Reduce) (t : VType) (bag other : List Value) → SameBag bag other → total r t bag ≡ total r t other

-- a closing does not depend on the order of its bag
abbrev pub ClosingTakesBags : Type 0
ClosingTakesBags = (r : Reduce) (held : Value) (bag other : List Value) → SameBag bag other → close r held bag ≡ close r held other

-- the empty bag leaves the held value
abbrev pub ClosingNothing : Type 0
ClosingNothing = (r : Reduce) (held : Value) → IsOf (type_of held) held → close r held [] ≡ Ok held

-- a sum with one member is an addition
abbrev pub SumOfOne : Type 0
SumOfOne = (held a : Value) → close Sum held (a ∷ []) ≡ result2 Add held a

-- a product with one member is a multiplication
abbrev pub ProductOfOne : Type 0
ProductOfOne = (held a : Value) → close Product held (a ∷ []) ≡ result2 Mul held a

-- a total of fewer than 2 ^ 62 members has room for one more
abbrev pub FewHaveRoom : Type 0
FewHaveRoom = (r : Reduce) (t : VType) (a : Total) (bag : List Value) → IsTotal r t a bag → length bag < 2 ^ 62 → HasRoom a

-- what a total stands for does not depend on the order of the bag
abbrev pub TotalStandsForBags : Type 0
TotalStandsForBags = (r : Reduce) (t : VType) (a : Total) (bag other : List Value) → SameBag bag other → IsTotal r t a bag → IsTotal r t a other

-- one total alone of a type stands for a bag
abbrev pub TotalIsOne : Type 0
TotalIsOne =
    (r : Reduce) (t kind : VType) (a b : Total) (bag : List Value) → HasType kind a → HasType kind b → IsTotal r t a bag → IsTotal r t b bag → a ≡ b

-- taking depends on the contributions of each rank only as a bag, where the closing does
abbrev pub TakingTakesRanks : (C V : Type 0) → Type 0
TakingTakesRanks C V = (rank : C → ℕ) (close : V → List C → Option V) → TakesBags close → (bound : ℕ) (held : V) (some other : List C) →
    ((s : ℕ) → SameBag (of_rank rank s some) (of_rank rank s other)) → taken rank close bound held some ≡ taken rank close bound held other

-- so it depends on all contributions only as a bag
abbrev pub TakingTakesBags : (C V : Type 0) → Type 0
TakingTakesBags C V = (rank : C → ℕ) (close : V → List C → Option V) → TakesBags close → (bound : ℕ) (held : V) (some other : List C) →
    SameBag some other → taken rank close bound held some ≡ taken rank close bound held other

-- without contributions taking leaves the held value
abbrev pub TakingNothing : (C V : Type 0) → Type 0
TakingNothing C V = (rank : C → ℕ) (close : V → List C → Option V) (bound : ℕ) (held : V) → taken rank close bound held [] ≡ Ok held

-- taking the contributions of the ranks below a number and then the later ones is taking all, a fault of the first part being the fault of the whole
abbrev pub TakingInParts : (C V : Type 0) → Type 0
TakingInParts C V = (rank : C → ℕ) (close : V → List C → Option V) (bound s : ℕ) (held : V) (cs : List C) →
    taken rank close bound held cs ≡ then_take (taken rank close bound held (before rank s cs)) (λ v. taken rank close bound v (from_on rank s cs))

-- taking up to a lesser bound and then the later contributions is taking all
abbrev pub TakingUpTo : (C V : Type 0) → Type 0
TakingUpTo C V = (rank : C → ℕ) (close : V → List C → Option V) (bound s : ℕ) (held : V) (cs : List C) → s ≤ bound →
    taken rank close bound held cs ≡ then_take (taken rank close s held cs) (λ v. taken rank close bound v (from_on rank s cs))

-- each bound above all ranks serves
abbrev pub TakingToAnyBound : (C V : Type 0) → Type 0
TakingToAnyBound C V = (rank : C → ℕ) (close : V → List C → Option V) (low high : ℕ) (held : V) (cs : List C) → low ≤ high → AreBelow rank low cs →
    taken rank close high held cs ≡ taken rank close low held cs

-- taking by new ranks in the old order is taking by the old ones, a fault's rank being the new one
abbrev pub TakingByNewRanks : (C V : Type 0) → Type 0
TakingByNewRanks C V = (rank new : C → ℕ) (close : V → List C → Option V) (p f : ℕ → ℕ) (cs : List C) → KeepsOrder rank new p f cs →
    (held : V) (bound : ℕ) → taken new close (f bound) held cs ≡ rank_by p (taken rank close bound held cs)

-- which tuple is kept of the held one and all contributed ones does not depend on their order
abbrev pub BestTakesBags : Type 0
BestTakesBags = (r : Reduce) (held : List ℤ) (tuples other : List (List ℤ)) → SameBag tuples other → best r held tuples ≡ best r held other

-- of tuples of one entry the reduction of the entries is kept
abbrev pub KeepsReduced : Reduce → Type 0
KeepsReduced r = (x y : ℤ) → kept r (x ∷ []) (y ∷ []) ≡ combined r x y ∷ []

-- with three tuples it does not matter which two are compared first
abbrev pub KeepsInParts : Reduce → Type 0
KeepsInParts r = (held some other : List ℤ) → kept r (kept r held some) other ≡ kept r held (kept r some other)

-- what slots hold after a bag of contributions does not depend on the bag's order
abbrev pub SlotsTakeBags : Type 0
SlotsTakeBags = (r : Reduce) (held : List Value) (bag other : List (List Value)) → SameBag bag other → close_slots r held bag ≡ close_slots r held other

-- one slot is closed as a value is
abbrev pub OneSlotCloses : Type 0
OneSlotCloses = (r : Reduce) (held : Value) (bag : List Value) → close_slots r (held ∷ []) (map (λ v. v ∷ []) bag) ≡ with_value (close r held bag) (Some [])

-- slots keep their types
abbrev pub SlotsKeepTypes : Type 0
SlotsKeepTypes = (r : Reduce) (held : List Value) (bag : List (List Value)) (after : List Value) → close_slots r held bag ≡ Some after → map type_of after ≡ map type_of held

-- the values of some types
abbrev pub AreOf : List VType → List Value → Type 0
AreOf [] [] = Unit {0}
AreOf [] (v ∷ vs) = ⊥
AreOf (t ∷ ts) [] = ⊥
AreOf (t ∷ ts) (v ∷ vs) = IsOf t v × AreOf ts vs

-- contributions of values of some types
abbrev pub EachAreOf : List VType → List (List Value) → Type 0
EachAreOf ts [] = Unit {0}
EachAreOf ts (vs ∷ bag) = AreOf ts vs × EachAreOf ts bag

-- several slots take every bag of values of their types: a tuple is kept, and none of it is out of range
abbrev pub TuplesFit : Type 0
TuplesFit = (r : Reduce) (ts : List VType) (held : List Value) (bag : List (List Value)) → 2 ≤ length held → AreOf ts held → EachAreOf ts bag → close_slots r held bag ≢ None
