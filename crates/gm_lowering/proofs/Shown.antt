-- The place at a fault's index is what the fault shows.
use Rattle.std.proofs.Common.{◌≡◌, ◌⊎◌, inl, inr, Bool, true, false, cond, List, [], ◌∷◌, length, map, refl, ap, ◌∙◌, sym, arith, ⊎_elim}
use Rattle.std.specs.Prelude.{◌+◌, ◌-◌, if◌then◌else◌, filter, slice_index_or}
use Rattle.std.proofs.lemmas.Bool.{both_ways}
use Rattle.gm_base.specs.declared.places.Place.{Place}
use Rattle.gm_value.specs.Bag.{IsIn}
use Rattle.gm_ast.specs.Keys as K
use Rattle.gm_ast.specs.Keys.{fault_lt}
use Rattle.gm_lowering.specs.Places.{Spot, spot_lt, inserted, ascending}
use Rattle.gm_lowering.specs.Shown.{IndicesShowPlaces}
use Rattle.gm_lowering.proofs.Orders.{lt-itself, lt-trans, HasFault, ascending-has}

-- spots in order, each once
abbrev IsAscending : List Spot → Type 0
IsAscending [] = Unit {0}
IsAscending (x ∷ xs) = ((y : Spot) → IsIn y xs → spot_lt x y ≡ true) × IsAscending xs

inserted-in : (s : Spot) (xs : List Spot) (y : Spot) → IsIn y (inserted s xs) → (y ≡ s) ⊎ IsIn y xs
inserted-in s [] y i = ⊎_elim (λ (e : y ≡ s). inl e) (λ (j : ⊥). absurd j) i
inserted-in s (x ∷ xs) y i = by (spot_lt s x) (spot_lt x s) (λ j. inserted-in s xs y j) i where
  by : (a b : Bool) → (IsIn y (inserted s xs) → (y ≡ s) ⊎ IsIn y xs) → IsIn y (if a then s ∷ (x ∷ xs) else (if b then x ∷ inserted s xs else x ∷ xs)) → (y ≡ s) ⊎ IsIn y (x ∷ xs)
  by true b go i = ⊎_elim (λ (e : y ≡ s). inl e) (λ (j : IsIn y (x ∷ xs)). inr j) i
  by false true go i = ⊎_elim (λ (e : y ≡ x). inr (inl e)) (λ (j : IsIn y (inserted s xs)). ⊎_elim (λ (e : y ≡ s). inl e) (λ (k : IsIn y xs). inr (inr k)) (go j)) i
  by false false go i = inr i

inserted-ascending : (s : Spot) (xs : List Spot) → IsAscending xs → IsAscending (inserted s xs)
inserted-ascending s [] h = (λ y i. absurd i, tt)
inserted-ascending s (x ∷ xs) h = by (spot_lt s x) (spot_lt x s) refl refl (inserted-ascending s xs h.1) where
  by : (a b : Bool) → spot_lt s x ≡ a → spot_lt x s ≡ b → IsAscending (inserted s xs) → IsAscending (if a then s ∷ (x ∷ xs) else (if b then x ∷ inserted s xs else x ∷ xs))
  by true b e f rest = (λ y i. ⊎_elim (λ (j : y ≡ x). ap (spot_lt s) j ∙ e) (λ (j : IsIn y xs). lt-trans s.fault x.fault y.fault e (h.0 y j)) i, h)
  by false true e f rest = (λ y i. ⊎_elim (λ (j : y ≡ s). ap (spot_lt x) j ∙ f) (λ (j : IsIn y xs). h.0 y j) (inserted-in s xs y i), rest)
  by false false e f rest = h

ascending-is : (spots : List Spot) → IsAscending (ascending spots)
ascending-is [] = tt
ascending-is (s ∷ ss) = inserted-ascending s (ascending ss) (ascending-is ss)

ascending-in : (spots : List Spot) (y : Spot) → IsIn y (ascending spots) → IsIn y spots
ascending-in [] y i = i
ascending-in (s ∷ ss) y i = ⊎_elim (λ (e : y ≡ s). inl e) (λ (j : IsIn y (ascending ss)). inr (ascending-in ss y j)) (inserted-in s (ascending ss) y i)

abbrev before : K.Fault → List Spot → List Spot
before f xs = filter (λ t. fault_lt t.fault f) xs

none-before : (f : K.Fault) (xs : List Spot) → ((y : Spot) → IsIn y xs → fault_lt f y.fault ≡ true) → before f xs ≡ []
none-before f [] h = refl
none-before f (x ∷ xs) h =
    ap (λ b. cond b (x ∷ before f xs) (before f xs)) (not-both (fault_lt x.fault f) refl) ∙ none-before f xs (λ y i. h y (inr i)) where
      not-both : (b : Bool) → fault_lt x.fault f ≡ b → b ≡ false
      not-both true e = absurd (both_ways (fault_lt f f) (lt-itself f) (lt-trans f x.fault f (h x (inl refl)) e))
      not-both false e = refl

-- the spot at the index of a fault is one of the fault
at-index : (f : K.Fault) (xs : List Spot) (other : Place) → IsAscending xs → HasFault f xs
    → (s : Spot) × IsIn s xs × (s.fault ≡ f) × (slice_index_or (map (λ t. t.shown) xs) (length (before f xs)) other ≡ s.shown)
at-index f [] other h o = absurd o
at-index f (x ∷ xs) other h o = ⊎_elim here (λ (j : HasFault f xs). there j (at-index f xs other h.1 j)) o where
  here : x.fault ≡ f → (s : Spot) × IsIn s (x ∷ xs) × (s.fault ≡ f) × (slice_index_or (map (λ t. t.shown) (x ∷ xs)) (length (before f (x ∷ xs))) other ≡ s.shown)
  here e = (
    x,
    inl refl,
    e,
    ap (λ l. slice_index_or (map (λ t. t.shown) (x ∷ xs)) (length l) other) (
        ap (λ b. cond b (x ∷ before f xs) (before f xs)) (ap (λ z. fault_lt z f) e ∙ lt-itself f)
        ∙ none-before f xs (λ y i. ap (λ z. fault_lt z y.fault) (sym e) ∙ h.0 y i)),
  )

  has-in : (ys : List Spot) → HasFault f ys → (y : Spot) × IsIn y ys × (y.fault ≡ f)
  has-in [] o = absurd o
  has-in (y ∷ ys) o = ⊎_elim (λ (e : y.fault ≡ f). (y, inl refl, e)) (λ (j : HasFault f ys). let q = has-in ys j in (q.0, inr q.1, q.2)) o

  there : HasFault f xs → (s : Spot) × IsIn s xs × (s.fault ≡ f) × (slice_index_or (map (λ t. t.shown) xs) (length (before f xs)) other ≡ s.shown)
      → (s : Spot) × IsIn s (x ∷ xs) × (s.fault ≡ f) × (slice_index_or (map (λ t. t.shown) (x ∷ xs)) (length (before f (x ∷ xs))) other ≡ s.shown)
  there j q =
      let y = has-in xs j in
      let lt : fault_lt x.fault f ≡ true = ap (fault_lt x.fault) (sym y.2) ∙ h.0 y.0 y.1 in (
        q.0,
        inr q.1,
        q.2,
        ap (λ b. slice_index_or (map (λ t. t.shown) (x ∷ xs)) (length (cond b (x ∷ before f xs) (before f xs))) other) lt ∙ q.3,
      )

spot-has : (spots : List Spot) (s : Spot) → IsIn s spots → HasFault s.fault spots
spot-has [] s i = i
spot-has (x ∷ xs) s i = ⊎_elim (λ (e : s ≡ x). inl (ap (λ t. t.fault) (sym e))) (λ (j : IsIn s xs). inr (spot-has xs s j)) i

pub indices-show : IndicesShowPlaces
indices-show base spots s other one i =
    let q = at-index s.fault (ascending spots) other (ascending-is spots) (ascending-has s.fault spots (spot-has spots s i)) in
    let n = length (before s.fault (ascending spots)) in
    ap (λ k. slice_index_or (map (λ t. t.shown) (ascending spots)) k other) (let e : base + n - base ≡ n = omega arith in e)
    ∙ q.3 ∙ one q.0 s (ascending-in spots q.0 q.1) i q.2
