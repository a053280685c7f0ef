-- Contributions taken onto a held value in the ascending order of their ranks.
use Rattle.std.specs.Prelude.{◌<◌, ◌≤◌, ◌≡◌, ℕ, zero, suc, nat_eq, nat_lt, nat_le, Option, Some, None, Result, Ok, Err, List, [], ◌∷◌, filter}
use Rattle.gm_value.specs.Bag.{SameBag, IsIn}

-- the contributions of one rank
abbrev pub of_rank : {C : Type 0} → (C → ℕ) → ℕ → List C → List C
of_rank rank s contributions = filter (λ c. nat_eq (rank c) s) contributions

-- what comes after a taking: nothing after a fault
abbrev pub then_take : {V : Type 0} → Result V ℕ → (V → Result V ℕ) → Result V ℕ
then_take (Ok v) go = go v
then_take (Err s) go = Err s

-- what a rank's closing gives, or the rank as the fault
abbrev pub at_rank : {V : Type 0} → ℕ → Option V → Result V ℕ
at_rank s (Some v) = Ok v
at_rank s None = Err s

-- what is held after a rank's bag, which is left out where it is empty
abbrev pub taken_bag : {C V : Type 0} → (V → List C → Option V) → ℕ → V → List C → Result V ℕ
taken_bag close s held [] = Ok held
taken_bag close s held (c ∷ bag) = at_rank s (close held (c ∷ bag))

-- what is held after the contributions of the ranks below a bound were taken one rank after another, or the rank whose closing fails
abbrev pub taken : {C V : Type 0} → (C → ℕ) → (V → List C → Option V) → ℕ → V → List C → Result V ℕ
taken rank close zero held contributions = Ok held
taken rank close (suc s) held contributions =
    then_take (taken rank close s held contributions) (λ v. taken_bag close s v (of_rank rank s contributions))

-- the contributions of the ranks below a number
abbrev pub before : {C : Type 0} → (C → ℕ) → ℕ → List C → List C
before rank s contributions = filter (λ c. nat_lt (rank c) s) contributions

-- the contributions of the other ranks
abbrev pub from_on : {C : Type 0} → (C → ℕ) → ℕ → List C → List C
from_on rank s contributions = filter (λ c. nat_le s (rank c)) contributions

-- a closing depends on its contributions only as a bag
abbrev pub TakesBags : {C V : Type 0} → (V → List C → Option V) → Type 0
TakesBags {C} {V} close = (held : V) (some other : List C) → SameBag some other → close held some ≡ close held other

-- all contributions have ranks below a number
abbrev pub AreBelow : {C : Type 0} → (C → ℕ) → ℕ → List C → Type 0
AreBelow rank bound [] = Unit {0}
AreBelow rank bound (c ∷ contributions) = (rank c < bound) × AreBelow rank bound contributions

-- a taking's answer with its fault's rank renamed
abbrev pub rank_by : {V : Type 0} → (ℕ → ℕ) → Result V ℕ → Result V ℕ
rank_by f (Ok v) = Ok v
rank_by f (Err s) = Err (f s)

-- contributions have new ranks in the old order: p is the new rank of an old one, and f cuts the new ranks where a bound cuts the old ones
pub record KeepsOrder {C : Type 0} (rank new : C → ℕ) (p f : ℕ → ℕ) (contributions : List C) : Type 0 where
  pub is : (c : C) → IsIn c contributions → new c ≡ p (rank c)
  pub below : (c : C) → IsIn c contributions → (bound : ℕ) → rank c < bound → new c < f bound
  pub above : (c : C) → IsIn c contributions → (bound : ℕ) → bound ≤ rank c → f bound ≤ new c
  pub up : (bound : ℕ) → f bound ≤ f (suc bound)
