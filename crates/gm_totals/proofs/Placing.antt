-- Pots that stand where the places of their targets' first slots say.
use Rattle.std.proofs.Common.{◌≡◌, ℕ, ◌+◌, ◌<◌, ◌≤◌, true, false, cond, zero, suc, List, [], ◌∷◌, ◌++◌, length, get_or, set, refl, sym, ap, subst, ◌∙◌, arith, None, ⊎_elim}
use Rattle.std.specs.Map.{keys_of}
use Rattle.std.proofs.lemmas.Bool.{cases_Bool, cases_lt}
use Rattle.std.proofs.lemmas.List.{get_or_append_left, get_or-map, length-map}
use Rattle.gm_semantics.specs.declared.slots.Slot.{Slot}
use Rattle.gm_semantics.specs.Stores.{slot_eq, slots_eq}
use Rattle.gm_semantics.proofs.ContributionLaws.{slot_eq-true}
use Rattle.gm_totals.specs.declared.pots.Pot.{Pot}
use Rattle.gm_totals.specs.declared.slots.Slots.{Slots}
use Rattle.gm_totals.specs.declared.totals.Totals.{Totals}
use Rattle.gm_totals.specs.Given.{slots_in}
use Rattle.gm_totals.specs.Places.{place_at, head_of, HasOneMore}
use Rattle.gm_totals.specs.Standing.{keyed, pot_at, targets_of, ArePlaced, IsPotOf, IsHead}
use Rattle.gm_totals.proofs.Keys.{slot_eq-itself, slots_eq-itself, slots_eq-same, slots_eq-sym, IsFirstAt, keys-other, lookup-none}

empty : ⊥ → ⊥
empty h = h

-- a pot with its target
abbrev pub key_of : Slots × Pot → List Slot × Pot
key_of e = (slots_in e.0, e.1)

-- an index within a list needs no default
pub same_default : {X : Type 0} (xs : List X) (k : ℕ) (e d : X) → k < length xs → get_or xs k e ≡ get_or xs k d
same_default [] k e d h = absurd (empty (omega (arith, h)))
same_default (x ∷ xs) zero e d h = refl
same_default (x ∷ xs) (suc k) e d h = let less : k < length xs = omega (arith, h) in same_default xs k e d less

-- a target's pot at an index
pub pot-here : (totals : Totals) (slots : List Slot) (k : ℕ) (d : List Slot) → k < length (targets_of totals) → get_or (targets_of totals) k d ≡ slots → IsPotOf totals slots k
pot-here totals slots k d h is = (h, λ e. same_default (targets_of totals) k e d h ∙ is)

-- a target's pot is its first
pub placed-first : (totals : Totals) → ArePlaced totals → (slots : List Slot) (place : ℕ) → IsPotOf totals slots place → IsFirstAt slots (keyed totals) place
placed-first totals placed slots place is = record {
  within = is.0;
  here = λ d. ap (slots_eq slots) (is.1 d) ∙ slots_eq-itself slots;
  before = λ k d h.
      ⊎_elim
      (λ (same : slots_eq slots (get_or (targets_of totals) k d) ≡ true).
      let within : k < length (targets_of totals) = omega (arith, is.0, h) in
      let twice : k ≡ place = placed.apart slots k place (pot-here totals slots k d within (sym (slots_eq-same slots _ same))) is in
      absurd (empty (omega (arith, h, twice))))
      (λ (other : slots_eq slots (get_or (targets_of totals) k d) ≡ false). other)
      (cases_Bool (slots_eq slots (get_or (targets_of totals) k d)));
}

-- a target has no pot where the place of its first slot has none that begins with it
pub unplaced-none : (totals : Totals) → ArePlaced totals → (slots : List Slot) → (IsHead totals (head_of slots) → ⊥) → pot_at totals slots ≡ None
unplaced-none totals placed slots never = lookup-none slots (keyed totals) each
  where
    each : (k : ℕ) (d : List Slot) → k < length (targets_of totals) → slots_eq slots (get_or (targets_of totals) k d) ≡ false
    each k d h =
        ⊎_elim
        (λ (same : slots_eq slots (get_or (targets_of totals) k d) ≡ true).
        absurd (never (placed.heads slots k (pot-here totals slots k d h (sym (slots_eq-same slots _ same))))))
        (λ (other : slots_eq slots (get_or (targets_of totals) k d) ≡ false). other)
        (cases_Bool (slots_eq slots (get_or (targets_of totals) k d)))

pub keys-more : {X : Type 0} (es : List (List Slot × X)) (p : List Slot × X) → keys_of (es ++ p ∷ []) ≡ keys_of es ++ p.0 ∷ []
keys-more [] p = refl
keys-more (e ∷ es) p = ap (λ l. e.0 ∷ l) (keys-more es p)

length-more : {X : Type 0} (xs : List X) (x : X) → length (xs ++ x ∷ []) ≡ suc (length xs)
length-more [] x = refl
length-more (y ∷ ys) x = ap suc (length-more ys x)

get-last : {X : Type 0} (xs : List X) (x d : X) → get_or (xs ++ x ∷ []) (length xs) d ≡ x
get-last [] x d = refl
get-last (y ∷ ys) x d = get-last ys x d

pub length-keys : {X : Type 0} (es : List (List Slot × X)) → length (keys_of es) ≡ length es
length-keys [] = refl
length-keys (e ∷ es) = ap suc (length-keys es)

pub get-key : {X : Type 0} (es : List (List Slot × X)) (k : ℕ) (d : List Slot) (e : List Slot × X) → k < length es → get_or (keys_of es) k d ≡ (get_or es k e).0
get-key [] k d e h = absurd (empty (omega (arith, h)))
get-key (x ∷ es) zero d e h = refl
get-key (x ∷ es) (suc k) d e h = let less : k < length es = omega (arith, h) in get-key es k d e less

-- a pot is put behind the others
module _ (old new : Totals) (slots : List Slot) (pot : Pot) (none : pot_at old slots ≡ None) (more : HasOneMore old.places new.places (head_of slots) (length (targets_of old)))
    (items : keyed new ≡ keyed old ++ (slots, pot) ∷ []) where
  keys : targets_of new ≡ targets_of old ++ slots ∷ []
  keys = ap keys_of items ∙ keys-more (keyed old) (slots, pot)

  within-last : (k : ℕ) → k < length (targets_of new) → k < suc (length (targets_of old))
  within-last k h = subst (λ n. k < n) (ap length keys ∙ length-more (targets_of old) slots) h

  -- a pot among the new ones is an old one, or the one behind them
  old-pot : (q : List Slot) (k : ℕ) → IsPotOf new q k → k < length (targets_of old) → IsPotOf old q k
  old-pot q k at h = (h, λ d. sym (get_or_append_left (targets_of old) (slots ∷ []) d k h) ∙ ap (λ l. get_or l k d) (sym keys) ∙ at.1 d)

  last-pot : (q : List Slot) (k : ℕ) → IsPotOf new q k → length (targets_of old) ≤ k → (k ≡ length (targets_of old)) × (slots ≡ q)
  last-pot q k at h =
      let within : k < suc (length (targets_of old)) = within-last k at.0 in
      let end : k ≡ length (targets_of old) = omega (arith, within, h) in
      (end, sym (get-last (targets_of old) slots slots) ∙ ap (λ n. get_or (targets_of old ++ slots ∷ []) n slots) (sym end) ∙ ap (λ l. get_or l k slots) (sym keys) ∙ at.1 slots)

  other-key : (k : ℕ) → IsPotOf old slots k → ⊥
  other-key k at = apart (sym (slots_eq-itself slots) ∙ ap (slots_eq slots) (sym (at.1 slots)) ∙ keys-other slots (keyed old) none k slots at.0)
    where
      apart : true ≡ false → ⊥
      apart e = cc

  apart-more : ArePlaced old → (q : List Slot) (j k : ℕ) → IsPotOf new q j → IsPotOf new q k → j ≡ k
  apart-more placed q j k at_j at_k =
      ⊎_elim
      (λ (j_old : j < length (targets_of old)).
      ⊎_elim
      (λ (k_old : k < length (targets_of old)). placed.apart q j k (old-pot q j at_j j_old) (old-pot q k at_k k_old))
      (λ (k_last : length (targets_of old) ≤ k).
      absurd (other-key j (subst (λ s. IsPotOf old s j) (sym (last-pot q k at_k k_last).1) (old-pot q j at_j j_old))))
      (cases_lt k (length (targets_of old))))
      (λ (j_last : length (targets_of old) ≤ j).
      ⊎_elim
      (λ (k_old : k < length (targets_of old)).
      absurd (other-key k (subst (λ s. IsPotOf old s k) (sym (last-pot q j at_j j_last).1) (old-pot q k at_k k_old))))
      (λ (k_last : length (targets_of old) ≤ k). (last-pot q j at_j j_last).0 ∙ sym (last-pot q k at_k k_last).0)
      (cases_lt k (length (targets_of old))))
      (cases_lt j (length (targets_of old)))

  -- the new pot is at the place of its first slot
  head-last : (x : Slot) → slot_eq x (head_of slots) ≡ true → IsHead new x
  head-last x same =
      let place : place_at new.places x ≡ length (targets_of old) = more x ∙ ap (λ b. cond b (length (targets_of old)) (place_at old.places x)) same in
      let longer : length (targets_of new) ≡ suc (length (targets_of old)) = ap length keys ∙ length-more (targets_of old) slots in (
        omega (arith, place, longer),
        λ d. ap (λ n. head_of (get_or (targets_of new) n d)) place ∙ ap (λ l. head_of (get_or l (length (targets_of old)) d)) keys
            ∙ ap head_of (get-last (targets_of old) slots d) ∙ sym (slot_eq-true x (head_of slots) same),
      )

  -- the others stand where they stood
  head-other : (x : Slot) → slot_eq x (head_of slots) ≡ false → IsHead old x → IsHead new x
  head-other x other at =
      let place : place_at new.places x ≡ place_at old.places x = more x ∙ ap (λ b. cond b (length (targets_of old)) (place_at old.places x)) other in
      let longer : length (targets_of new) ≡ suc (length (targets_of old)) = ap length keys ∙ length-more (targets_of old) slots in (
        omega (arith, place, longer, at.0),
        λ d. ap (λ n. head_of (get_or (targets_of new) n d)) place ∙ ap (λ l. head_of (get_or l (place_at old.places x) d)) keys
            ∙ ap head_of (get_or_append_left (targets_of old) (slots ∷ []) d (place_at old.places x) at.0) ∙ at.1 d,
      )

  heads-more : ArePlaced old → (q : List Slot) (k : ℕ) → IsPotOf new q k → IsHead new (head_of q)
  heads-more placed q k at =
      ⊎_elim
      (λ (same : slot_eq (head_of q) (head_of slots) ≡ true). head-last (head_of q) same)
      (λ (other : slot_eq (head_of q) (head_of slots) ≡ false).
      ⊎_elim
      (λ (was : k < length (targets_of old)). head-other (head_of q) other (placed.heads q k (old-pot q k at was)))
      (λ (last : length (targets_of old) ≤ k).
      let same : slot_eq (head_of q) (head_of slots) ≡ true = subst (λ (s : List Slot). slot_eq (head_of s) (head_of slots) ≡ true) (last-pot q k at last).1 (slot_eq-itself (head_of slots)) in
      absurd (apart (sym same ∙ other)))
      (cases_lt k (length (targets_of old))))
      (cases_Bool (slot_eq (head_of q) (head_of slots)))
    where
      apart : true ≡ false → ⊥
      apart e = cc

  -- the pots stand at their places after one was put behind them
  pub placed-more : ArePlaced old → ArePlaced new
  placed-more placed = record { apart = apart-more placed; heads = heads-more placed }

  pub targets-more : targets_of new ≡ targets_of old ++ slots ∷ []
  targets-more = keys

-- the slots of pots of which one is changed
pub keys-set : {X : Type 0} (es : List (List Slot × X)) (i : ℕ) (p : List Slot × X) → ((d : List Slot) → i < length (keys_of es) → get_or (keys_of es) i d ≡ p.0) → keys_of (set es i p) ≡ keys_of es
keys-set [] i p same = refl
keys-set (e ∷ es) zero p same = let first : 0 < suc (length (keys_of es)) = omega arith in ap (λ k. k ∷ keys_of es) (sym (same p.0 first))
keys-set (e ∷ es) (suc i) p same = ap (λ l. e.0 ∷ l) (keys-set es i p (λ d h. let more : suc i < suc (length (keys_of es)) = omega (arith, h) in same d more))

-- the target at a place
pub target-here : (totals : Totals) (place : ℕ) (pair : Slots × Pot) (d : List Slot) → place < length totals.pots.items → pair ≡ get_or totals.pots.items place pair
    → slots_in pair.0 ≡ get_or (targets_of totals) place d
target-here totals place pair d h is =
    let within : place < length (keyed totals) = subst (λ n. place < n) (sym (length-map totals.pots.items key_of)) h in
    sym (get-key (keyed totals) place d (key_of pair) within ∙ ap (λ (e : List Slot × Pot). e.0) (get_or-map key_of totals.pots.items place pair (key_of pair) h) ∙ ap (λ (e : Slots × Pot). slots_in e.0) (sym is))

-- no pot begins with a slot where its place is behind them all, or has another
pub past-head : (totals : Totals) (slots : List Slot) (head : Slot) (place : ℕ) → head ≡ head_of slots → place ≡ place_at totals.places head → length totals.pots.items ≤ place
    → IsHead totals (head_of slots) → ⊥
past-head totals slots head place is at past has =
    let where_it_is : place ≡ place_at totals.places (head_of slots) = at ∙ ap (place_at totals.places) is in
    empty (omega (arith, has.0, past, where_it_is, length-keys (keyed totals), length-map totals.pots.items key_of))

pub other-head : (totals : Totals) (slots : List Slot) (head : Slot) (place : ℕ) (here : List Slot) → head ≡ head_of slots → place ≡ place_at totals.places head
    → ((d : List Slot) → here ≡ get_or (targets_of totals) place d) → slot_eq (head_of here) head ≡ false → IsHead totals (head_of slots) → ⊥
other-head totals slots head place here is at found other has =
    let where_it_is : place_at totals.places (head_of slots) ≡ place = sym (at ∙ ap (place_at totals.places) is) in
    let same : head_of here ≡ head = ap head_of (found slots) ∙ sym (ap (λ n. head_of (get_or (targets_of totals) n slots)) where_it_is) ∙ has.1 slots ∙ sym is in
    apart (sym (slot_eq-itself head) ∙ ap (λ x. slot_eq x head) (sym same) ∙ other)
  where
    apart : true ≡ false → ⊥
    apart e = cc

-- the target that was found
pub found-here : (totals : Totals) (slots : List Slot) (place : ℕ) (here : List Slot) → place < length totals.pots.items → ((d : List Slot) → here ≡ get_or (targets_of totals) place d)
    → slots_eq here slots ≡ true → IsPotOf totals slots place
found-here totals slots place here h found same =
    let within : place < length (targets_of totals) = omega (arith, h, length-keys (keyed totals), length-map totals.pots.items key_of) in
    pot-here totals slots place here within (sym (found here) ∙ slots_eq-same here slots same)

-- none of the targets is the one that is asked for
pub none-here : (totals : Totals) (slots : List Slot) (k : ℕ) → length totals.pots.items ≤ k → ((j : ℕ) (d : List Slot) → j < k → slots_eq slots (get_or (targets_of totals) j d) ≡ false) → pot_at totals slots ≡ None
none-here totals slots k past others =
    lookup-none slots (keyed totals)
    (λ j d h. let less : j < k = omega (arith, h, past, length-keys (keyed totals), length-map totals.pots.items key_of) in others j d less)

pub none-more : (totals : Totals) (slots : List Slot) (k : ℕ) (here : List Slot) → ((d : List Slot) → here ≡ get_or (targets_of totals) k d) → slots_eq here slots ≡ false
    → ((j : ℕ) (d : List Slot) → j < k → slots_eq slots (get_or (targets_of totals) j d) ≡ false) → (j : ℕ) (d : List Slot) → j < k + 1 → slots_eq slots (get_or (targets_of totals) j d) ≡ false
none-more totals slots k here found other others j d h =
    ⊎_elim
    (λ (less : j < k). others j d less)
    (λ (last : k ≤ j).
    let same : j ≡ k = omega (arith, h, last) in
    ap (λ n. slots_eq slots (get_or (targets_of totals) n d)) same ∙ ap (slots_eq slots) (sym (found d)) ∙ slots_eq-sym slots here ∙ other)
    (cases_lt j k)
