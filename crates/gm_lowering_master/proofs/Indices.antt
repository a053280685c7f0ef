-- The index of a fault's place leads to the place.
use Rattle.std.proofs.Common.{◌≡◌, inl, inr, ℕ, zero, suc, ◌+◌, Bool, true, false, cond, Some, List, [], ◌∷◌, length, map, refl, ap, ◌∙◌, sym, subst, ⊎_elim}
use Rattle.std.specs.Prelude.{filter, slice_get, if◌then◌else◌}
use Rattle.std.proofs.lemmas.Bool.{both_ways}
use Rattle.gm_value.specs.Bag.{IsIn}
use Rattle.gm_ast.specs.Keys as K
use Rattle.gm_ast.specs.Keys.{fault_lt}
use Rattle.gm_image.specs.Program.{Program}
use Rattle.gm_machine.specs.Machine.{place_at}
use Rattle.gm_lowering.specs.Places.{Spot, segment, spot_lt, inserted, ascending, place_index, shown_places}
use Rattle.gm_lowering.specs.Settles.{HasSpot}
use Rattle.gm_lowering.proofs.Orders.{lt-itself, lt-trans, HasFault, fault-has, ascending-has}
use Rattle.gm_lowering_master.specs.Runs.{StandsAt}
use Rattle.gm_lowering_master.proofs.Standing.{stands-get, get-is-index_or}

-- each spot comes before the later ones
abbrev pub AreInOrder : List Spot → Type 0
AreInOrder [] = Unit {0}
AreInOrder (x ∷ xs) = ((y : Spot) → IsIn y xs → spot_lt x y ≡ true) × AreInOrder xs

inserted-in : (s : Spot) (xs : List Spot) (y : Spot) → IsIn y (inserted s xs) → (P : Spot → Type 0) → P s → ((z : Spot) → IsIn z xs → P z) → P y
inserted-in s [] y i P here there = ⊎_elim (λ (e : y ≡ s). subst P (sym e) here) (λ (j : ⊥). absurd j) i
inserted-in s (x ∷ xs) y i P here there = by (λ j. inserted-in s xs y j P here (λ z k. there z (inr k))) (spot_lt s x) (spot_lt x s) i where
  by : (IsIn y (inserted s xs) → P y) → (b d : Bool) → IsIn y (if b then s ∷ (x ∷ xs) else (if d then x ∷ inserted s xs else x ∷ xs)) → P y
  by rest true d i = ⊎_elim (λ (e : y ≡ s). subst P (sym e) here) (λ (j : IsIn y (x ∷ xs)). there y j) i
  by rest false true i = ⊎_elim (λ (e : y ≡ x). there y (inl e)) rest i
  by rest false false i = there y i

inserted-order : (s : Spot) (xs : List Spot) → AreInOrder xs → AreInOrder (inserted s xs)
inserted-order s [] h = (λ y i. absurd i, tt)
inserted-order s (x ∷ xs) h = by (inserted-order s xs h.1) (spot_lt s x) (spot_lt x s) refl refl where
  by : AreInOrder (inserted s xs) → (b d : Bool) → spot_lt s x ≡ b → spot_lt x s ≡ d → AreInOrder (if b then s ∷ (x ∷ xs) else (if d then x ∷ inserted s xs else x ∷ xs))
  by rest true d e f =
      (λ y i. ⊎_elim (λ (a : y ≡ x). ap (spot_lt s) a ∙ e) (λ (j : IsIn y xs). lt-trans s.fault x.fault y.fault e (h.0 y j)) i, h)
  by rest false true e f = (λ y i. inserted-in s xs y i (λ z. spot_lt x z ≡ true) f h.0, rest)
  by rest false false e f = h

pub ascending-order : (spots : List Spot) → AreInOrder (ascending spots)
ascending-order [] = tt
ascending-order (s ∷ ss) = inserted-order s (ascending ss) (ascending-order ss)

-- what is true of all spots is true of them in order
pub ascending-all : (spots : List Spot) (P : Spot → Type 0) → ((z : Spot) → IsIn z spots → P z) → (z : Spot) → IsIn z (ascending spots) → P z
ascending-all [] P h z i = absurd i
ascending-all (s ∷ ss) P h z i = inserted-in s (ascending ss) z i P (h s (inl refl)) (ascending-all ss P (λ y j. h y (inr j)))

none-before : (f : K.Fault) (xs : List Spot) → ((y : Spot) → IsIn y xs → fault_lt f y.fault ≡ true) → length (filter (λ s. fault_lt s.fault f) xs) ≡ 0
none-before f [] h = refl
none-before f (x ∷ xs) h = by (fault_lt x.fault f) refl (none-before f xs (λ y i. h y (inr i))) where
  by : (b : Bool) → fault_lt x.fault f ≡ b → length (filter (λ s. fault_lt s.fault f) xs) ≡ 0 → length (cond b (x ∷ filter (λ s. fault_lt s.fault f) xs) (filter (λ s. fault_lt s.fault f) xs)) ≡ 0
  by true e rest = absurd (both_ways (fault_lt f f) (lt-itself f) (lt-trans f x.fault f (h x (inl refl)) e))
  by false e rest = rest

-- among spots in order the number of those before a fault is its index
pub index-found : (f : K.Fault) (xs : List Spot) → AreInOrder xs → HasFault f xs
    → (s : Spot) × (s.fault ≡ f) × IsIn s xs × (slice_get xs (length (filter (λ s. fault_lt s.fault f) xs)) ≡ Some s)
index-found f [] o h = absurd h
index-found f (x ∷ xs) o h = ⊎_elim here (λ (j : HasFault f xs). there (index-found f xs o.1 j)) h where
  here : x.fault ≡ f → (s : Spot) × (s.fault ≡ f) × IsIn s (x ∷ xs) × (slice_get (x ∷ xs) (length (filter (λ s. fault_lt s.fault f) (x ∷ xs))) ≡ Some s)
  here e = (
    x,
    e,
    inl refl,
    ap (slice_get (x ∷ xs)) (
        ap (λ b. length (cond b (x ∷ filter (λ s. fault_lt s.fault f) xs) (filter (λ s. fault_lt s.fault f) xs))) (ap (λ z. fault_lt z f) e ∙ lt-itself f)
        ∙ none-before f xs (λ y i. ap (λ z. fault_lt z y.fault) (sym e) ∙ o.0 y i)),
  )

  there : (s : Spot) × (s.fault ≡ f) × IsIn s xs × (slice_get xs (length (filter (λ s. fault_lt s.fault f) xs)) ≡ Some s) → (s : Spot) × (s.fault ≡ f) × IsIn s (x ∷ xs) × (slice_get (x ∷ xs) (length (filter (λ s. fault_lt s.fault f) (x ∷ xs))) ≡ Some s)
  there q =
      (q.0, q.1, inr q.2, ap (slice_get (x ∷ xs)) (ap (λ b. length (cond b (x ∷ filter (λ s. fault_lt s.fault f) xs) (filter (λ s. fault_lt s.fault f) xs))) (ap (λ z. fault_lt x.fault z) (sym q.1) ∙ o.0 q.0 q.2)) ∙ q.3)

shown-get : (xs : List Spot) (i : ℕ) (s : Spot) → slice_get xs i ≡ Some s → slice_get (map (λ s. s.shown) xs) i ≡ Some s.shown
shown-get [] i s e = cc
shown-get (x ∷ xs) zero s e = cc
shown-get (x ∷ xs) (suc i) s e = shown-get xs i s e

-- the index of a fault that has a spot leads to the place that it shows
pub place-found : (p : Program) (base : ℕ) (spots : List Spot) (z : Spot) → StandsAt p.places base (shown_places (segment base spots)) → HasSpot z spots
    → ((s : Spot) → IsIn s spots → s.fault ≡ z.fault → s.shown ≡ z.shown)
    → place_at p (place_index (segment base spots) z.fault.key z.fault.place) ≡ z.shown
place-found p base spots z stands h own =
    let all = ascending spots in
    let q = index-found z.fault all (ascending-order spots) (ascending-has z.fault spots (fault-has z spots h)) in
    let i : ℕ = length (filter (λ s. fault_lt s.fault z.fault) all) in
    get-is-index_or p.places (base + i) q.0.shown _ (stands-get p.places base (shown_places (segment base spots)) i q.0.shown stands (shown-get all i q.0 q.3))
    ∙ ascending-all spots (λ s. s.fault ≡ z.fault → s.shown ≡ z.shown) own q.0 q.2 q.1
