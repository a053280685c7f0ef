-- What slots hold after contributions to targets, slot by slot.
use Rattle.std.proofs.Common.{◌≡◌, ℕ, zero, suc, Bool, true, false, cond, List, [], ◌∷◌, length, map, refl, sym, ap, subst, ◌∙◌, Option, Some, None, Result, Ok, Err, ⊎_elim, inl, inr}
use Rattle.std.specs.Prelude.{◌⊎◌, ◌||◌}
use Rattle.std.proofs.lemmas.Bool.{cases_Bool, both_ways}
use Rattle.gm_value.specs.declared.values.Value.{Value}
use Rattle.gm_value.specs.declared.reductions.Reduce.{Reduce}
use Rattle.gm_value.specs.Numbers.{type_of}
use Rattle.gm_value.specs.Bag.{IsIn}
use Rattle.gm_value.specs.Taking.{of_rank, then_take, at_rank, taken_bag, taken}
use Rattle.gm_value.proofs.TupleLaws.{slots-typed}
use Rattle.gm_semantics.specs.declared.slots.Slot.{Slot}
use Rattle.gm_semantics.specs.declared.slots.Slot.TheVariants.{Scalar, Node}
use Rattle.gm_semantics.specs.Stores.{Store, slot_eq, slots_eq, has_slot, read, reads}
use Rattle.gm_semantics.specs.Contributions.{Contribution, settled_store, statement_of, to_target, target_of, close_by, statement_bound, taken_onto, values_or, target_taken, value_among, value_after}
use Rattle.gm_semantics.specs.Laws.{OneReduction, Distinct, Away}
use Rattle.gm_semantics.proofs.ContributionLaws.{slot_eq-true, slot_eq-refl, slots_eq-true, has_first}

-- a contribution is to a slot
pub record Reaches (slot : Slot) (cs : List Contribution) : Type 0 where
  pub by : Contribution
  pub among : IsIn by cs
  pub has : has_slot slot by.slots ≡ true

pub reaches? : (slot : Slot) (cs : List Contribution) → Away slot cs ⊎ Reaches slot cs
reaches? slot [] = inl (λ c i. absurd i)
reaches? slot (c ∷ cs) =
    ⊎_elim
    (λ (hit : has_slot slot c.slots ≡ true). inr (record { by = c; among = inl refl; has = hit }))
    (λ (miss : has_slot slot c.slots ≡ false).
    ⊎_elim
    (λ (away : Away slot cs). inl (λ d i. ⊎_elim (λ (e : d ≡ c). ap (λ (z : Contribution). has_slot slot z.slots) e ∙ miss) (λ r. away d r) i))
    (λ (r : Reaches slot cs). inr (record { by = r.by; among = inr r.among; has = r.has }))
    (reaches? slot cs))
    (cases_Bool (has_slot slot c.slots))

pub never : {A : Type 0} {b : Bool} → b ≡ true → b ≡ false → A
never {b = b} h k = absurd (both_ways b k h)

-- a slot to which none is is a target alone, with no contribution
target_of-away : (slot : Slot) (cs : List Contribution) → Away slot cs → target_of slot cs ≡ slot ∷ []
target_of-away slot [] away = refl
target_of-away slot (c ∷ cs) away = ap (λ b. cond b c.slots (target_of slot cs)) (away c (inl refl)) ∙ target_of-away slot cs (λ d i. away d (inr i))

pub nothing-to : (slot : Slot) (slots : List Slot) (cs : List Contribution) → has_slot slot slots ≡ true → Away slot cs → to_target slots cs ≡ []
nothing-to slot slots [] has away = refl
nothing-to slot slots (c ∷ cs) has away = by (slots_eq slots c.slots) refl (nothing-to slot slots cs has (λ d i. away d (inr i)))
  where
    by : (b : Bool) → slots_eq slots c.slots ≡ b → to_target slots cs ≡ [] → cond b (c ∷ to_target slots cs) (to_target slots cs) ≡ []
    by true e rest = never (ap (has_slot slot) (sym (slots_eq-true slots c.slots e)) ∙ has) (away c (inl refl))
    by false e rest = rest

either-same : (b : Bool) (v : Value) → cond b v v ≡ v
either-same true v = refl
either-same false v = refl

-- so it holds what it held
pub value-away : (s : Store) (slot : Slot) (cs : List Contribution) → Away slot cs → value_after s cs slot ≡ read s slot
value-away s slot cs away =
    ap (λ slots. value_among slot slots (values_or (reads s slots) (target_taken s cs slots)) (read s slot)) (target_of-away slot cs away)
    ∙ ap (λ ds. value_among slot (slot ∷ []) (values_or (read s slot ∷ []) (taken_onto (read s slot ∷ []) ds)) (read s slot)) (nothing-to slot (slot ∷ []) cs (has_first slot []) away)
    ∙ either-same (slot_eq slot slot) (read s slot)

-- the target of a slot is that of each contribution to it
pub target_of-found : (slot : Slot) (cs : List Contribution) → OneReduction cs → (c : Contribution) → IsIn c cs → has_slot slot c.slots ≡ true → target_of slot cs ≡ c.slots
target_of-found slot [] one c i has = absurd i
target_of-found slot (d ∷ cs) one c i has =
    by (has_slot slot d.slots) refl
    (λ miss. ⊎_elim (λ (e : c ≡ d). never has (ap (λ (z : Contribution). has_slot slot z.slots) e ∙ miss)) (λ r. target_of-found slot cs (λ a b x j k. one a b x (inr j) (inr k)) c r has) i)
  where
    by : (b : Bool) → has_slot slot d.slots ≡ b → (has_slot slot d.slots ≡ false → target_of slot cs ≡ c.slots) → cond b d.slots (target_of slot cs) ≡ c.slots
    by true e rest = (one d c slot (inl refl) i e has).1
    by false e rest = rest e

-- a taking keeps the number of values
map-length : {A B : Type 0} (f : A → B) (xs : List A) → length (map f xs) ≡ length xs
map-length f [] = refl
map-length f (x ∷ xs) = ap suc (map-length f xs)

abbrev Keeps : ℕ → Result (List Value) ℕ → Type 0
Keeps n (Ok vs) = length vs ≡ n
Keeps n (Err s) = Unit {0}

bag-keeps : (r : Reduce) (n s : ℕ) (held : List Value) (bag : List Contribution) → length held ≡ n → Keeps n (taken_bag (close_by r) s held bag)
bag-keeps r n s held [] e = e
bag-keeps r n s held (c ∷ bag) e = by (close_by r held (c ∷ bag)) (λ after same. slots-typed r held _ after same)
  where
    by : (o : Option (List Value)) → ((after : List Value) → o ≡ Some after → map type_of after ≡ map type_of held) → Keeps n (at_rank s o)
    by (Some after) typed = sym (map-length type_of after) ∙ ap length (typed after refl) ∙ map-length type_of held ∙ e
    by None typed = tt

taken-keeps : (r : Reduce) (n s : ℕ) (held : List Value) (cs : List Contribution) → length held ≡ n → Keeps n (taken statement_of (close_by r) s held cs)
taken-keeps r n zero held cs e = e
taken-keeps r n (suc s) held cs e = by (taken statement_of (close_by r) s held cs) (taken-keeps r n s held cs e)
  where
    by : (a : Result (List Value) ℕ) → Keeps n a → Keeps n (then_take a (λ v. taken_bag (close_by r) s v (of_rank statement_of s cs)))
    by (Ok vs) k = bag-keeps r n s vs (of_rank statement_of s cs) k
    by (Err t) k = tt

onto-keeps : (n : ℕ) (held : List Value) (cs : List Contribution) → length held ≡ n → Keeps n (taken_onto held cs)
onto-keeps n held [] e = e
onto-keeps n held (c ∷ cs) e = taken-keeps c.reduce n (statement_bound (c ∷ cs)) held (c ∷ cs) e

pub taken-length : (s : Store) (slots : List Slot) (cs : List Contribution) (vs : List Value) → taken_onto (reads s slots) cs ≡ Ok vs → length vs ≡ length slots
taken-length s slots cs vs e = subst (Keeps (length slots)) e (onto-keeps (length slots) (reads s slots) cs (map-length (read s) slots))

has-rest : (slot x : Slot) (xs : List Slot) → has_slot slot xs ≡ true → has_slot slot (x ∷ xs) ≡ true
has-rest slot x xs h = by (slot_eq slot x)
  where
    by : (b : Bool) → b || has_slot slot xs ≡ true
    by true = refl
    by false = h

-- two reads that are the same slot by slot
pub reads-same : (s t : Store) (slots : List Slot) → ((slot : Slot) → has_slot slot slots ≡ true → read s slot ≡ read t slot) → reads s slots ≡ reads t slots
reads-same s t [] h = refl
reads-same s t (x ∷ xs) h = ap (λ v. v ∷ reads s xs) (h x (has_first x xs)) ∙ ap (λ vs. read t x ∷ vs) (reads-same s t xs (λ slot has. h slot (has-rest slot x xs has)))

-- a slot's value is found among those of its target
pub among-any : (slot : Slot) (slots : List Slot) (vs : List Value) (a b : Value) → has_slot slot slots ≡ true → length vs ≡ length slots → value_among slot slots vs a ≡ value_among slot slots vs b
among-any slot [] vs a b has e = never has refl
among-any slot (x ∷ xs) [] a b has e = absurd (cc)
among-any slot (x ∷ xs) (v ∷ vs) a b has e = by (slot_eq slot x) (let k : length vs ≡ length xs = cc in λ h. among-any slot xs vs a b h k) has
  where
    by : (c : Bool) → (has_slot slot xs ≡ true → value_among slot xs vs a ≡ value_among slot xs vs b) → c || has_slot slot xs ≡ true → cond c v (value_among slot xs vs a) ≡ cond c v (value_among slot xs vs b)
    by true rest h = refl
    by false rest h = rest h

pub among-reads : (s : Store) (slot : Slot) (slots : List Slot) (a : Value) → has_slot slot slots ≡ true → value_among slot slots (reads s slots) a ≡ read s slot
among-reads s slot [] a has = never has refl
among-reads s slot (x ∷ xs) a has = by (slot_eq slot x) refl (among-reads s slot xs a) has
  where
    by : (c : Bool) → slot_eq slot x ≡ c → (has_slot slot xs ≡ true → value_among slot xs (reads s xs) a ≡ read s slot) → c || has_slot slot xs ≡ true → cond c (read s x) (value_among slot xs (reads s xs) a) ≡ read s slot
    by true e rest h = ap (read s) (sym (slot_eq-true slot x e))
    by false e rest h = rest h

-- the values of distinct slots, slot by slot
skip : (slot x : Slot) (xs : List Slot) (v : Value) (vs : List Value) (a : Value) → has_slot x xs ≡ false → has_slot slot xs ≡ true → value_among slot (x ∷ xs) (v ∷ vs) a ≡ value_among slot xs vs a
skip slot x xs v vs a none has = by (slot_eq slot x) refl
  where
    by : (b : Bool) → slot_eq slot x ≡ b → cond b v (value_among slot xs vs a) ≡ value_among slot xs vs a
    by true e = never has (ap (λ z. has_slot z xs) (slot_eq-true slot x e) ∙ none)
    by false e = refl

map-slots : (f g : Slot → Value) (slots : List Slot) → ((slot : Slot) → has_slot slot slots ≡ true → f slot ≡ g slot) → map f slots ≡ map g slots
map-slots f g [] h = refl
map-slots f g (x ∷ xs) h = ap (λ v. v ∷ map f xs) (h x (has_first x xs)) ∙ ap (λ vs. g x ∷ vs) (map-slots f g xs (λ slot has. h slot (has-rest slot x xs has)))

pub among-all : (slots : List Slot) (vs : List Value) (other : Slot → Value) → Distinct slots → length vs ≡ length slots → map (λ slot. value_among slot slots vs (other slot)) slots ≡ vs
among-all [] [] other d e = refl
among-all [] (v ∷ vs) other d e = absurd (cc)
among-all (x ∷ xs) [] other d e = absurd (cc)
among-all (x ∷ xs) (v ∷ vs) other d e =
    let k : length vs ≡ length xs = cc in
    ap (λ b. cond b v (value_among x xs vs (other x)) ∷ map (λ slot. value_among slot (x ∷ xs) (v ∷ vs) (other slot)) xs) (slot_eq-refl x)
    ∙ ap (λ us. v ∷ us)
    (map-slots (λ slot. value_among slot (x ∷ xs) (v ∷ vs) (other slot)) (λ slot. value_among slot xs vs (other slot)) xs (λ slot has. skip slot x xs v vs (other slot) d.0 has)
    ∙ among-all xs vs other d.1 k)

-- what a target's slots hold after a taking that went well
pub settled-reads : (s : Store) (cs : List Contribution) (after : Store) (c : Contribution) (vs : List Value) → OneReduction cs → IsIn c cs → Distinct c.slots → ((slot : Slot) → read after slot ≡ value_after s cs slot) →
    target_taken s cs c.slots ≡ Ok vs → reads after c.slots ≡ vs
settled-reads s cs after c vs one i d is e =
    map-slots (read after) (λ slot. value_among slot c.slots vs (read s slot)) c.slots
    (λ slot has.
    is slot
    ∙ ap (λ slots. value_among slot slots (values_or (reads s slots) (target_taken s cs slots)) (read s slot)) (target_of-found slot cs one c i has)
    ∙ ap (λ a. value_among slot c.slots (values_or (reads s c.slots) a) (read s slot)) e)
    ∙ among-all c.slots vs (read s) d (taken-length s c.slots (to_target c.slots cs) vs e)

pub read-settled : (s : Store) (cs : List Contribution) (slot : Slot) → read (settled_store s cs) slot ≡ value_after s cs slot
read-settled s cs (Scalar y) = refl
read-settled s cs (Node p k) = refl
