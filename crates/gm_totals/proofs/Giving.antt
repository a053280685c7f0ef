-- Totals with one more contribution.
use Rattle.std.proofs.Common.{◌≡◌, ℕ, zero, suc, ◌<◌, Bool, true, false, cond, List, [], ◌∷◌, ◌++◌, length, get_or, set, refl, sym, ap, subst, ◌∙◌, Some, None, ⊎_elim, inl, inr}
use Rattle.std.specs.Prelude.{◌⊎◌, All}
use Rattle.std.specs.Map.{lookup, keys_of}
use Rattle.gm_value.specs.Bag.{IsIn}
use Rattle.gm_semantics.specs.declared.slots.Slot.{Slot}
use Rattle.gm_semantics.specs.Stores.{slots_eq}
use Rattle.gm_semantics.specs.Contributions.{Contribution}
use Rattle.gm_store.specs.Held.{Shape, HasSlot}
use Rattle.gm_totals.specs.declared.pots.Pot.{Pot}
use Rattle.gm_totals.specs.declared.totals.Totals.{Totals}
use Rattle.gm_totals.specs.Given.{is_several}
use Rattle.gm_totals.specs.Places.{place_at, head_of, HasOneMore}
use Rattle.gm_totals.specs.Pots.{PotGains}
use Rattle.gm_totals.specs.Standing.{keyed, pot_at, targets_of, ArePlaced, IsPotOf, first_with, StandsFor, Within}
use Rattle.gm_totals.proofs.Owners.{owners-kept, owners-added, get-in}
use Rattle.gm_totals.proofs.Potting.{targets-more}
use Rattle.gm_totals.proofs.Keys.{slots_eq-same, lookup-added, lookup-changed, lookup-first}
use Rattle.gm_totals.proofs.Placing.{keys-set, placed-first, placed-more, targets-more as targets-longer}

-- what is found behind an entry that stays
found-behind : {X : Type 0} (q : List Slot) (e : List Slot × X) (old new : List (List Slot × X)) (key : List Slot) (w : X)
    → (lookup (slots_eq q) new ≡ Some w → (slots_eq q key ≡ true) ⊎ ((v : X) × (lookup (slots_eq q) old ≡ Some v)))
    → lookup (slots_eq q) (e ∷ new) ≡ Some w → (slots_eq q key ≡ true) ⊎ ((v : X) × (lookup (slots_eq q) (e ∷ old) ≡ Some v))
found-behind {X} q e old new key w rest found = by (slots_eq q e.0) refl
  where
    by : (b : Bool) → slots_eq q e.0 ≡ b → (slots_eq q key ≡ true) ⊎ ((v : X) × (lookup (slots_eq q) (e ∷ old) ≡ Some v))
    by true is = inr (e.1, ap (λ b. cond b (Some e.1) (lookup (slots_eq q) old)) is)
    by false is =
        ⊎_elim
        (λ (same : slots_eq q key ≡ true). inl same)
        (λ (was : (v : X) × (lookup (slots_eq q) old ≡ Some v)). inr (was.0, ap (λ b. cond b (Some e.1) (lookup (slots_eq q) old)) is ∙ was.1))
        (rest (sym (ap (λ b. cond b (Some e.1) (lookup (slots_eq q) new)) is) ∙ found))

-- what is found with one entry more or changed is that entry's, or was found before
found-before : {X : Type 0} (q : List Slot) (es : List (List Slot × X)) (p : List Slot × X) (w : X) → lookup (slots_eq q) (es ++ p ∷ []) ≡ Some w
    → (slots_eq q p.0 ≡ true) ⊎ ((v : X) × (lookup (slots_eq q) es ≡ Some v))
found-before {X} q [] p w found = by (slots_eq q p.0) refl
  where
    by : (b : Bool) → slots_eq q p.0 ≡ b → (slots_eq q p.0 ≡ true) ⊎ ((v : X) × (lookup (slots_eq q) [] ≡ Some v))
    by true e = inl e
    by false e = inr (w, sym (ap (λ b. cond b (Some p.1) None) e) ∙ found)
found-before q (e ∷ es) p w found = found-behind q e es (es ++ p ∷ []) p.0 w (λ h. found-before q es p w h) found

found-but-set : {X : Type 0} (q : List Slot) (es : List (List Slot × X)) (i : ℕ) (p : List Slot × X) (w : X) → lookup (slots_eq q) (set es i p) ≡ Some w
    → (slots_eq q p.0 ≡ true) ⊎ ((v : X) × (lookup (slots_eq q) es ≡ Some v))
found-but-set q [] i p w found = inr (w, found)
found-but-set {X} q (e ∷ es) zero p w found = by (slots_eq q p.0) refl (slots_eq q e.0) refl
  where
    by : (b : Bool) → slots_eq q p.0 ≡ b → (d : Bool) → slots_eq q e.0 ≡ d → (slots_eq q p.0 ≡ true) ⊎ ((v : X) × (lookup (slots_eq q) (e ∷ es) ≡ Some v))
    by true is d was = inl is
    by false is true was = inr (e.1, ap (λ b. cond b (Some e.1) (lookup (slots_eq q) es)) was)
    by false is false was =
        inr (w, ap (λ b. cond b (Some e.1) (lookup (slots_eq q) es)) was ∙ sym (ap (λ b. cond b (Some p.1) (lookup (slots_eq q) es)) is) ∙ found)
found-but-set q (e ∷ es) (suc i) p w found = found-behind q e es (set es i p) p.0 w (λ h. found-but-set q es i p w h) found

-- a pot of totals is changed
module _ (old new : Totals) (place : ℕ) (slots : List Slot) (pot : Pot) (items : keyed new ≡ set (keyed old) place (slots, pot)) where
  pub same-targets : IsPotOf old slots place → targets_of new ≡ targets_of old
  same-targets at = ap keys_of items ∙ keys-set (keyed old) place (slots, pot) (λ d h. at.1 d)

  pub within-changed : (shape : Shape) → All (HasSlot shape) slots → Within shape old → Within shape new
  within-changed shape has all q w found =
      ⊎_elim
      (λ (same : slots_eq q slots ≡ true). subst (All (HasSlot shape)) (sym (slots_eq-same q slots same)) has)
      (λ (was : (v : Pot) × (pot_at old q ≡ Some v)). all q was.0 was.1)
      (found-but-set q (keyed old) place (slots, pot) w (sym (ap (lookup (slots_eq q)) items) ∙ found))

  same-placed : targets_of new ≡ targets_of old → new.places ≡ old.places → ArePlaced old → ArePlaced new
  same-placed targets places placed =
      let back : (q : List Slot) (k : ℕ) → IsPotOf new q k → IsPotOf old q k = λ q k at. subst (λ l. (k < length l) × ((d : List Slot) → get_or l k d ≡ q)) targets at in
      record {
        apart = λ q j k at_j at_k. placed.apart q j k (back q j at_j) (back q k at_k);
        heads = λ q k at.
            let was = placed.heads q k (back q k at) in
            let x = head_of q in
            let P : List (List Slot) → ℕ → Type 0 = λ l n. (n < length l) × ((d : List Slot) → head_of (get_or l n d) ≡ x) in
            subst (λ l. P l (place_at new.places x)) (sym targets) (subst (λ ps. P (targets_of old) (place_at ps x)) (sym places) was);
      }

  pub stands-changed : (c : Contribution) (d : List Slot × Pot) → IsPotOf old slots place → slots ≡ c.slots → new.places ≡ old.places
      → PotGains (is_several c.slots) (Some (get_or (keyed old) place d).1) pot c → (cs : List Contribution) → StandsFor old cs → StandsFor new (cs ++ c ∷ [])
  stands-changed c d at key places gains cs stands =
      let mine : IsPotOf old c.slots place = subst (λ s. IsPotOf old s place) key at in
      let first = placed-first old stands.placed c.slots place mine in
      let found : pot_at old c.slots ≡ Some (get_or (keyed old) place d).1 = lookup-first c.slots (keyed old) place d first in
      let targets = same-targets at in
      let own : IsIn c.slots (targets_of old) = subst (λ t. IsIn t (targets_of old)) (mine.1 slots) (get-in (targets_of old) place slots mine.0) in
      record {
        stands = targets-more (pot_at old) (pot_at new) pot c (subst (λ o. PotGains (is_several c.slots) o pot c) (sym found) gains)
            (λ q. ap (lookup (slots_eq q)) items ∙ lookup-changed c.slots (keyed old) place (slots, pot) key first q) cs stands.stands;
        owners = λ x. ap (first_with x) targets ∙ owners-kept x cs c (targets_of old) own (stands.owners x);
        placed = same-placed targets places stands.placed;
      }

-- a pot is put behind the others
module _ (old new : Totals) (c : Contribution) (pot : Pot) (items : keyed new ≡ keyed old ++ (c.slots, pot) ∷ []) where
  pub stands-added : HasOneMore old.places new.places (head_of c.slots) (length (targets_of old)) → PotGains (is_several c.slots) None pot c
      → (cs : List Contribution) → StandsFor old cs → pot_at old c.slots ≡ None → StandsFor new (cs ++ c ∷ [])
  stands-added more gains cs stands none = record {
    stands = targets-more (pot_at old) (pot_at new) pot c (subst (λ o. PotGains (is_several c.slots) o pot c) (sym none) gains)
        (λ q. ap (lookup (slots_eq q)) items ∙ lookup-added c.slots (keyed old) pot none q) cs stands.stands;
    owners = λ x. ap (first_with x) (targets-longer old new c.slots pot none more items) ∙ owners-added x cs c (targets_of old) (stands.owners x);
    placed = placed-more old new c.slots pot none more items stands.placed;
  }

  pub within-added : (shape : Shape) → All (HasSlot shape) c.slots → Within shape old → Within shape new
  within-added shape has all q w found =
      ⊎_elim
      (λ (same : slots_eq q c.slots ≡ true). subst (All (HasSlot shape)) (sym (slots_eq-same q c.slots same)) has)
      (λ (was : (v : Pot) × (pot_at old q ≡ Some v)). all q was.0 was.1)
      (found-before q (keyed old) (c.slots, pot) w (sym (ap (lookup (slots_eq q)) items) ∙ found))
