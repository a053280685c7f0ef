-- Targets, and look-ups of them among entries.
use Rattle.std.proofs.Common.{◌≡◌, ℕ, ◌+◌, zero, suc, ◌<◌, ◌≤◌, not, drop, Bool, true, false, cond, List, [], ◌∷◌, ◌++◌, length, get_or, set, refl, sym, ap, ◌∙◌, arith, Option, Some, None, ⊎_elim}
use Rattle.std.specs.Prelude.{nat_eq, ◌&&◌}
use Rattle.std.specs.Map.{lookup, keys_of}
use Rattle.std.proofs.lemmas.Bool.{cases_Bool, cases_eq, eq-eqb, ne_eqb}
use Rattle.gm_semantics.specs.declared.slots.Slot.{Slot}
use Rattle.gm_semantics.specs.declared.slots.Slot.TheVariants.{Scalar, Node}
use Rattle.gm_semantics.specs.contracts.slots.SlotPartialEq.TheImpl as slots
use Rattle.gm_semantics.specs.Stores.{slot_eq, slots_eq}
use Rattle.gm_totals.specs.Given.{is_several}
use Rattle.gm_totals.specs.Places.{head_of}
use Rattle.gm_totals.proofs.Tuples.{drop-here, drop-past}
use Rattle.gm_semantics.proofs.ContributionLaws.{slot_eq-true}

-- the code's test of slots is the definition's
pub eq-slot : (a b : Slot) → slots.eq-value.it a b ≡ slot_eq a b
eq-slot (Scalar x) (Scalar y) = refl
eq-slot (Scalar x) (Node p n) = refl
eq-slot (Node p n) (Scalar x) = refl
eq-slot (Node p n) (Node q m) = refl

nat_eq-sym : (a b : ℕ) → nat_eq a b ≡ nat_eq b a
nat_eq-sym a b =
    ⊎_elim
    (λ (e : a ≡ b). eq-eqb a b e ∙ sym (eq-eqb b a (sym e)))
    (λ (other : a ≡ b → ⊥). ne_eqb a b other ∙ sym (ne_eqb b a (λ e. other (sym e))))
    (cases_eq a b)

pub slot_eq-sym : (a b : Slot) → slot_eq a b ≡ slot_eq b a
slot_eq-sym (Scalar x) (Scalar y) = nat_eq-sym x y
slot_eq-sym (Scalar x) (Node p n) = refl
slot_eq-sym (Node p n) (Scalar x) = refl
slot_eq-sym (Node p n) (Node q m) = ap (λ b. b && nat_eq n m) (nat_eq-sym p q) ∙ ap (λ b. nat_eq q p && b) (nat_eq-sym n m)

-- a slot is itself
pub slot_eq-itself : (a : Slot) → slot_eq a a ≡ true
slot_eq-itself (Scalar x) = eq-eqb x x refl
slot_eq-itself (Node p n) = ap (λ b. b && nat_eq n n) (eq-eqb p p refl) ∙ eq-eqb n n refl

-- a target is its slots
pub slots_eq-itself : (xs : List Slot) → slots_eq xs xs ≡ true
slots_eq-itself [] = refl
slots_eq-itself (x ∷ xs) = ap (λ b. b && slots_eq xs xs) (slot_eq-itself x) ∙ slots_eq-itself xs

pub slots_eq-same : (xs ys : List Slot) → slots_eq xs ys ≡ true → xs ≡ ys
slots_eq-same [] [] h = refl
slots_eq-same [] (y ∷ ys) h = cc
slots_eq-same (x ∷ xs) [] h = cc
slots_eq-same (x ∷ xs) (y ∷ ys) h = by (slot_eq x y) (slots_eq xs ys) refl refl h (λ e. slots_eq-same xs ys e)
  where
    by : (p q : Bool) → slot_eq x y ≡ p → slots_eq xs ys ≡ q → p && q ≡ true → (slots_eq xs ys ≡ true → xs ≡ ys) → x ∷ xs ≡ y ∷ ys
    by true true e f h rest = ap (λ z. z ∷ xs) (slot_eq-true x y e) ∙ ap (λ zs. y ∷ zs) (rest f)
    by true false e f h rest = cc
    by false q e f h rest = cc

pub slots_eq-sym : (xs ys : List Slot) → slots_eq xs ys ≡ slots_eq ys xs
slots_eq-sym [] [] = refl
slots_eq-sym [] (y ∷ ys) = refl
slots_eq-sym (x ∷ xs) [] = refl
slots_eq-sym (x ∷ xs) (y ∷ ys) = ap (λ b. b && slots_eq xs ys) (slot_eq-sym x y) ∙ ap (λ b. slot_eq y x && b) (slots_eq-sym xs ys)

empty : ⊥ → ⊥
empty h = h

module _ {X : Type 0} (slot : List Slot) where
  -- the first entry of a slot is at an index
  pub record IsFirstAt (es : List (List Slot × X)) (i : ℕ) : Type 0 where
    pub within : i < length (keys_of es)
    pub here : (d : List Slot) → slots_eq slot (get_or (keys_of es) i d) ≡ true
    pub before : (k : ℕ) (d : List Slot) → k < i → slots_eq slot (get_or (keys_of es) k d) ≡ false

  later : (e : List Slot × X) (es : List (List Slot × X)) (i : ℕ) → IsFirstAt (e ∷ es) (suc i) → IsFirstAt es i
  later e es i at = let within = at.within in record {
    within = omega arith;
    here = at.here;
    before = λ k d h. let more : suc k < suc i = omega arith in at.before (suc k) d more;
  }

  not_first : (e : List Slot × X) (es : List (List Slot × X)) (i : ℕ) → IsFirstAt (e ∷ es) (suc i) → slots_eq slot e.0 ≡ false
  not_first e es i at = let less : 0 < suc i = omega arith in at.before 0 slot less

  -- a look-up finds the value at the first entry
  pub lookup-first : (es : List (List Slot × X)) (i : ℕ) (d : List Slot × X) → IsFirstAt es i → lookup (slots_eq slot) es ≡ Some (get_or es i d).1
  lookup-first [] i d at = absurd (empty (omega (arith, at.within)))
  lookup-first (e ∷ es) zero d at = ap (λ b. cond b (Some e.1) (lookup (slots_eq slot) es)) (at.here slot)
  lookup-first (e ∷ es) (suc i) d at =
      ap (λ b. cond b (Some e.1) (lookup (slots_eq slot) es)) (not_first e es i at) ∙ lookup-first es i d (later e es i at)

  -- of two slots that are not the same either may be asked for first
  asked-first : (q k : List Slot) (v w : X) (o : Option X) → slots_eq slot k ≡ false
      → cond (slots_eq q k) (Some v) (cond (slots_eq q slot) (Some w) o) ≡ cond (slots_eq q slot) (Some w) (cond (slots_eq q k) (Some v) o)
  asked-first q k v w o other = by (slots_eq q k) refl
    where
      by : (b : Bool) → slots_eq q k ≡ b → cond b (Some v) (cond (slots_eq q slot) (Some w) o) ≡ cond (slots_eq q slot) (Some w) (cond b (Some v) o)
      by true h =
          let same : q ≡ k = slots_eq-same q k h in
          let apart : slots_eq q slot ≡ false = ap (λ x. slots_eq x slot) same ∙ slots_eq-sym k slot ∙ other in
          sym (ap (λ b. cond b (Some w) (Some v)) apart)
      by false h = refl

  -- a look-up after the value at the first entry was changed
  pub lookup-changed : (es : List (List Slot × X)) (i : ℕ) (p : List Slot × X) → p.0 ≡ slot → IsFirstAt es i → (q : List Slot)
      → lookup (slots_eq q) (set es i p) ≡ cond (slots_eq q slot) (Some p.1) (lookup (slots_eq q) es)
  lookup-changed [] i p key at q = absurd (empty (omega (arith, at.within)))
  lookup-changed (e ∷ es) zero p key at q = ap (λ x. cond (slots_eq q x) (Some p.1) (lookup (slots_eq q) es)) key ∙ by (slots_eq q slot) refl
    where
      same : slot ≡ e.0
      same = slots_eq-same slot e.0 (at.here slot)

      by : (b : Bool) → slots_eq q slot ≡ b → cond b (Some p.1) (lookup (slots_eq q) es) ≡ cond b (Some p.1) (cond (slots_eq q e.0) (Some e.1) (lookup (slots_eq q) es))
      by true h = refl
      by false h = sym (ap (λ b. cond b (Some e.1) (lookup (slots_eq q) es)) (sym (ap (slots_eq q) same) ∙ h))
  lookup-changed (e ∷ es) (suc i) p key at q =
      ap (λ o. cond (slots_eq q e.0) (Some e.1) o) (lookup-changed es i p key (later e es i at) q)
      ∙ asked-first q e.0 e.1 p.1 (lookup (slots_eq q) es) (not_first e es i at)

  -- what holds of the keys where none is found
  found : (e : List Slot × X) (o : Option X) → slots_eq slot e.0 ≡ true → cond (slots_eq slot e.0) (Some e.1) o ≡ None → ⊥
  found e o same none = apart (sym (ap (λ b. cond b (Some e.1) o) same) ∙ none)
    where
      apart : {x : X} → Some x ≡ None → ⊥
      apart h = cc

  head-other : (e : List Slot × X) (es : List (List Slot × X)) → lookup (slots_eq slot) (e ∷ es) ≡ None → slots_eq slot e.0 ≡ false
  head-other e es none =
      ⊎_elim
      (λ (same : slots_eq slot e.0 ≡ true). absurd (found e (lookup (slots_eq slot) es) same none))
      (λ (other : slots_eq slot e.0 ≡ false). other)
      (cases_Bool (slots_eq slot e.0))

  tail-none : (e : List Slot × X) (es : List (List Slot × X)) → lookup (slots_eq slot) (e ∷ es) ≡ None → lookup (slots_eq slot) es ≡ None
  tail-none e es none = sym (ap (λ b. cond b (Some e.1) (lookup (slots_eq slot) es)) (head-other e es none)) ∙ none

  pub keys-other : (es : List (List Slot × X)) → lookup (slots_eq slot) es ≡ None → (k : ℕ) (d : List Slot) → k < length (keys_of es) → slots_eq slot (get_or (keys_of es) k d) ≡ false
  keys-other [] none k d h = absurd (empty (omega (arith, h)))
  keys-other (e ∷ es) none zero d h = head-other e es none
  keys-other (e ∷ es) none (suc k) d h = let less : k < length (keys_of es) = omega arith in keys-other es (tail-none e es none) k d less

  pub lookup-none : (es : List (List Slot × X)) → ((k : ℕ) (d : List Slot) → k < length (keys_of es) → slots_eq slot (get_or (keys_of es) k d) ≡ false) → lookup (slots_eq slot) es ≡ None
  lookup-none [] others = refl
  lookup-none (e ∷ es) others =
      let first : 0 < suc (length (keys_of es)) = omega arith in
      ap (λ b. cond b (Some e.1) (lookup (slots_eq slot) es)) (others 0 slot first)
      ∙ lookup-none es (λ k d h. let more : suc k < suc (length (keys_of es)) = omega (arith, h) in others (suc k) d more)

  -- a look-up after an entry was added for a slot that has none
  pub lookup-added : (es : List (List Slot × X)) (w : X) → lookup (slots_eq slot) es ≡ None → (q : List Slot)
      → lookup (slots_eq q) (es ++ (slot, w) ∷ []) ≡ cond (slots_eq q slot) (Some w) (lookup (slots_eq q) es)
  lookup-added [] w none q = refl
  lookup-added (e ∷ es) w none q =
      ap (λ o. cond (slots_eq q e.0) (Some e.1) o) (lookup-added es w (tail-none e es none) q)
      ∙ asked-first q e.0 e.1 w (lookup (slots_eq q) es) (head-other e es none)

-- slots are compared one after another
pub eq-step : (xs ys : List Slot) (k : ℕ) (d e : Slot) → k < length xs → k < length ys → slot_eq (get_or xs k d) (get_or ys k e) ≡ true
    → slots_eq (drop k xs) (drop k ys) ≡ slots_eq (drop (k + 1) xs) (drop (k + 1) ys)
eq-step xs ys k d e h g same =
    ap (λ l. slots_eq l (drop k ys)) (drop-here xs k d h) ∙ ap (slots_eq (get_or xs k d ∷ drop (k + 1) xs)) (drop-here ys k e g) ∙ ap (λ b. b && slots_eq (drop (k + 1) xs) (drop (k + 1) ys)) same

pub eq-out : (xs ys : List Slot) (k : ℕ) (d e : Slot) → k < length xs → k < length ys → slot_eq (get_or xs k d) (get_or ys k e) ≡ false → slots_eq (drop k xs) (drop k ys) ≡ false
eq-out xs ys k d e h g other =
    ap (λ l. slots_eq l (drop k ys)) (drop-here xs k d h) ∙ ap (slots_eq (get_or xs k d ∷ drop (k + 1) xs)) (drop-here ys k e g) ∙ ap (λ b. b && slots_eq (drop (k + 1) xs) (drop (k + 1) ys)) other

pub eq-end : (xs ys : List Slot) (k : ℕ) → length xs ≤ k → length ys ≤ k → slots_eq (drop k xs) (drop k ys) ≡ true
eq-end xs ys k h g = ap (λ l. slots_eq l (drop k ys)) (drop-past xs k h) ∙ ap (slots_eq []) (drop-past ys k g)

pub several-not : (xs : List Slot) → is_several xs ≡ not (nat_eq (length xs) 1)
several-not [] = refl
several-not (x ∷ []) = refl
several-not (x ∷ (y ∷ xs)) = sym (ap not (ne_eqb (suc (suc (length xs))) 1 (λ e. omega (arith, e))))

pub eq-lengths : (xs ys : List Slot) → (length xs ≡ length ys → ⊥) → slots_eq xs ys ≡ false
eq-lengths xs ys other =
    ⊎_elim
    (λ (same : slots_eq xs ys ≡ true). absurd (other (ap length (slots_eq-same xs ys same))))
    (λ (no_one : slots_eq xs ys ≡ false). no_one)
    (cases_Bool (slots_eq xs ys))

-- a target of one slot is its first
pub alone-head : (xs : List Slot) → is_several xs ≡ false → xs ≡ head_of xs ∷ []
alone-head [] e = absurd (apart e)
  where
    apart : true ≡ false → ⊥
    apart h = cc
alone-head (x ∷ []) e = refl
alone-head (x ∷ (y ∷ xs)) e = absurd (apart e)
  where
    apart : true ≡ false → ⊥
    apart h = cc

pub several-length : (xs : List Slot) → is_several xs ≡ true → length xs ≡ 1 → ⊥
several-length [] e one = absurd (empty (omega (arith, one)))
several-length (x ∷ []) e one = apart e
  where
    apart : false ≡ true → ⊥
    apart h = cc
several-length (x ∷ (y ∷ xs)) e one = absurd (empty (omega (arith, one)))
