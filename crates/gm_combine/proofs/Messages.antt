-- Batches as lists of messages.
use Rattle.std.proofs.Common.{◌≡◌, ◌≢◌, ◌<◌, ◌+◌, ℕ, zero, suc, ℤ, Bool, true, false, cond, nat_eq, All, Option, Some, None, List, [], ◌∷◌, ◌++◌, map, filter, length, get_or, refl, sym, ap, subst, ◌∙◌, arith, ⊎_elim, append_assoc}
use Rattle.std.proofs.lemmas.Bool.{cases_eq, eq-eqb, ne_eqb}
use Rattle.std.proofs.lemmas.List.{map-append, append-nil}
use Rattle.std.proofs.lemmas.List.Elements.{filter-append}
use Rattle.gm_value.specs.declared.values.Value.{Value}
use Rattle.gm_value.specs.declared.reductions.Reduce.{Reduce}
use Rattle.gm_value.specs.Bag.{SameBag}
use Rattle.gm_value.specs.Numbers.{number_of}
use Rattle.gm_value.specs.Reductions.{combined}
use Rattle.gm_value.proofs.BagLaws.{SameBag-filter, SameBag-map, SameBag-folded}
use Rattle.gm_value.proofs.MonoidLaws.{combined_assoc, combined_comm, combined_exchange}
use Rattle.gm_machine.specs.Vertex.{Message}
use Rattle.gm_machine.specs.Machine.{inbox}
use Rattle.gm_machine.specs.Combining.{carried, of_kind, more_exact, exact_of}
use Rattle.gm_combine.specs.Totals.{more_at, all_at}
use Rattle.gm_value.specs.declared.totals.Total.{Total}
use Rattle.gm_combine.specs.Folds.{placed, AddsAll}
use Rattle.gm_combine.specs.Batches.{messages_to}

-- as many messages as places and values
pub length-messages : (kind : ℕ) (places : List ℕ) (vs : List Value) → length vs ≡ length places → length (messages_to kind places vs) ≡ length places
length-messages kind [] vs same = refl
length-messages kind (p ∷ places) [] same = absurd (omega (arith, same))
length-messages kind (p ∷ places) (v ∷ vs) same = ap suc (length-messages kind places vs (omega (arith, same)))

-- one more message
pub messages-more : (kind : ℕ) (places : List ℕ) (vs : List Value) (place : ℕ) (v : Value) → length vs ≡ length places →
    messages_to kind (places ++ place ∷ []) (vs ++ v ∷ []) ≡ messages_to kind places vs ++ record { to = place; kind = kind; values = v ∷ [] } ∷ []
messages-more kind [] [] place v same = refl
messages-more kind [] (w ∷ vs) place v same = absurd (omega (arith, same))
messages-more kind (p ∷ places) [] place v same = absurd (omega (arith, same))
messages-more kind (p ∷ places) (w ∷ vs) place v same = ap (λ ms. record { to = p; kind = kind; values = w ∷ [] } ∷ ms) (messages-more kind places vs place v (omega (arith, same)))

-- the places of messages
to-at : (kind : ℕ) (places : List ℕ) (vs : List Value) (k d : ℕ) → length vs ≡ length places → k < length places →
    (get_or (messages_to kind places vs) k (record { to = d; kind = kind; values = [] })).to ≡ get_or places k d
to-at kind [] vs k d same here = absurd (omega (arith, here))
to-at kind (p ∷ places) [] k d same here = absurd (omega (arith, same))
to-at kind (p ∷ places) (v ∷ vs) zero d same here = refl
to-at kind (p ∷ places) (v ∷ vs) (suc k) d same here = to-at kind places vs k d (omega (arith, same)) (omega (arith, here))

pub places-within : (n kind : ℕ) (places : List ℕ) (vs : List Value) → length vs ≡ length places → All (λ m. m.to < n) (messages_to kind places vs) → All (λ p. p < n) places
places-within n kind places vs same all = λ k d here.
    subst (λ p. p < n) (to-at kind places vs k d same here)
    (all k (record { to = d; kind = kind; values = [] }) (subst (λ l. k < l) (sym (length-messages kind places vs same)) here))

-- exact totals do not depend on the order
exact-permuted : (r : Reduce) {xs ys : List Value} → SameBag xs ys → exact_of r xs ≡ exact_of r ys
exact-permuted r = SameBag-folded (exact_of r) (λ v o. Some (more_exact r (number_of v) o)) (λ v rest. refl) (λ v w o. by (number_of v) (number_of w) o) where
  by : (a b : ℤ) (o : Option ℤ) → Some (more_exact r a (Some (more_exact r b o))) ≡ Some (more_exact r b (Some (more_exact r a o)))
  by a b None = ap Some (combined_comm r a b)
  by a b (Some e) = ap Some (combined_exchange r a b e)

-- a value behind others counts as one before them
exact-behind : (r : Reduce) (xs : List Value) (v : Value) → exact_of r (xs ++ v ∷ []) ≡ Some (more_exact r (number_of v) (exact_of r xs))
exact-behind r [] v = refl
exact-behind r (x ∷ xs) v = ap (λ o. Some (more_exact r (number_of x) o)) (exact-behind r xs v) ∙ by (number_of x) (number_of v) (exact_of r xs) where
  by : (a b : ℤ) (o : Option ℤ) → Some (more_exact r a (Some (more_exact r b o))) ≡ Some (more_exact r b (Some (more_exact r a o)))
  by a b None = ap Some (combined_comm r a b)
  by a b (Some e) = ap Some (combined_exchange r a b e)

-- the values of the messages of a kind to a place
abbrev pub values_at : ℕ → ℕ → List Message → List Value
values_at kind place ms = map carried (of_kind kind (inbox ms place))

values-append : (kind place : ℕ) (xs ys : List Message) → values_at kind place (xs ++ ys) ≡ values_at kind place xs ++ values_at kind place ys
values-append kind place xs ys =
    ap (λ ms. map carried (of_kind kind ms)) (filter-append (λ m. nat_eq m.to place) xs ys)
    ∙ ap (map carried) (filter-append (λ m. nat_eq m.kind kind) (inbox xs place) (inbox ys place))
    ∙ map-append carried (of_kind kind (inbox xs place)) (of_kind kind (inbox ys place))

pub exact-same : (r : Reduce) (kind place : ℕ) (xs ys : List Message) → SameBag xs ys → exact_of r (values_at kind place xs) ≡ exact_of r (values_at kind place ys)
exact-same r kind place xs ys same =
    exact-permuted r (SameBag-map carried (SameBag-filter (λ m. nat_eq m.kind kind) (SameBag-filter (λ m. nat_eq m.to place) same)))

-- a message of the kind to the place, and one to another
value-here : (kind p place : ℕ) (v : Value) (rest : List Message) → p ≡ place →
    values_at kind place (record { to = p; kind = kind; values = v ∷ [] } ∷ rest) ≡ v ∷ values_at kind place rest
value-here kind p place v rest is =
    let m : Message = record { to = p; kind = kind; values = v ∷ [] } in
    ap (λ b. map carried (of_kind kind (cond b (m ∷ inbox rest place) (inbox rest place)))) (eq-eqb p place is)
    ∙ ap (λ b. map carried (cond b (m ∷ of_kind kind (inbox rest place)) (of_kind kind (inbox rest place)))) (eq-eqb kind kind refl)

value-elsewhere : (kind p place : ℕ) (v : Value) (rest : List Message) → (p ≡ place → ⊥) →
    values_at kind place (record { to = p; kind = kind; values = v ∷ [] } ∷ rest) ≡ values_at kind place rest
value-elsewhere kind p place v rest not =
    let m : Message = record { to = p; kind = kind; values = v ∷ [] } in
    ap (λ b. map carried (of_kind kind (cond b (m ∷ inbox rest place) (inbox rest place)))) (ne_eqb p place not)

exact-step : (r : Reduce) (kind place : ℕ) (bag : List Value) (p : ℕ) (v : Value) (places : List ℕ) (vs : List Value) →
    all_at r place (placed places (map number_of vs)) (exact_of r (bag ++ v ∷ [])) ≡ exact_of r ((bag ++ v ∷ []) ++ values_at kind place (messages_to kind places vs)) →
    all_at r place (placed places (map number_of vs)) (exact_of r bag) ≡ exact_of r (bag ++ values_at kind place (messages_to kind places vs)) →
    all_at r place (placed (p ∷ places) (map number_of (v ∷ vs))) (exact_of r bag) ≡ exact_of r (bag ++ values_at kind place (messages_to kind (p ∷ places) (v ∷ vs)))
exact-step r kind place bag p v places vs with_it without = ⊎_elim same differs (cases_eq p place) where
  rest : List Message
  rest = messages_to kind places vs

  same : p ≡ place → all_at r place (placed (p ∷ places) (map number_of (v ∷ vs))) (exact_of r bag) ≡ exact_of r (bag ++ values_at kind place (messages_to kind (p ∷ places) (v ∷ vs)))
  same is =
      ap (λ b. all_at r place (placed places (map number_of vs)) (cond b (Some (more_exact r (number_of v) (exact_of r bag))) (exact_of r bag))) (eq-eqb p place is)
      ∙ ap (all_at r place (placed places (map number_of vs))) (sym (exact-behind r bag v))
      ∙ with_it
      ∙ ap (exact_of r) (append_assoc bag (v ∷ []) (values_at kind place rest))
      ∙ ap (λ more. exact_of r (bag ++ more)) (sym (value-here kind p place v rest is))

  differs : (p ≡ place → ⊥) → all_at r place (placed (p ∷ places) (map number_of (v ∷ vs))) (exact_of r bag) ≡ exact_of r (bag ++ values_at kind place (messages_to kind (p ∷ places) (v ∷ vs)))
  differs not =
      ap (λ b. all_at r place (placed places (map number_of vs)) (cond b (Some (more_exact r (number_of v) (exact_of r bag))) (exact_of r bag))) (ne_eqb p place not)
      ∙ without
      ∙ ap (λ more. exact_of r (bag ++ more)) (sym (value-elsewhere kind p place v rest not))

exact-go : (r : Reduce) (kind place : ℕ) (bag : List Value) (places : List ℕ) (vs : List Value) →
    all_at r place (placed places (map number_of vs)) (exact_of r bag) ≡ exact_of r (bag ++ values_at kind place (messages_to kind places vs))
exact-go r kind place bag [] vs = ap (exact_of r) (sym (append-nil bag))
exact-go r kind place bag (p ∷ places) [] = ap (exact_of r) (sym (append-nil bag))
exact-go r kind place bag (p ∷ places) (v ∷ vs) =
    exact-step r kind place bag p v places vs (exact-go r kind place (bag ++ v ∷ []) places vs) (exact-go r kind place bag places vs)

-- the total at a place after a batch of the kind is that of the messages before it and of the batch
pub exact-more : (r : Reduce) (kind place : ℕ) (ms : List Message) (places : List ℕ) (vs : List Value) →
    all_at r place (placed places (map number_of vs)) (exact_of r (values_at kind place ms)) ≡ exact_of r (values_at kind place (ms ++ messages_to kind places vs))
exact-more r kind place ms places vs =
    exact-go r kind place (values_at kind place ms) places vs ∙ ap (exact_of r) (sym (values-append kind place ms (messages_to kind places vs)))

none-step : (kind other place : ℕ) → (other ≡ kind → ⊥) → (p : ℕ) (v : Value) (rest : List Message) → values_at kind place rest ≡ [] →
    values_at kind place (record { to = p; kind = other; values = v ∷ [] } ∷ rest) ≡ []
none-step kind other place differs p v rest none = by (nat_eq p place) where
  by : (b : Bool) → map carried (of_kind kind (cond b (record { to = p; kind = other; values = v ∷ [] } ∷ inbox rest place) (inbox rest place))) ≡ []
  by false = none
  by true = ap (λ b. map carried (cond b (record { to = p; kind = other; values = v ∷ [] } ∷ of_kind kind (inbox rest place)) (of_kind kind (inbox rest place)))) (ne_eqb other kind differs) ∙ none

-- messages of another kind do not count
none-other : (kind other place : ℕ) → (other ≡ kind → ⊥) → (places : List ℕ) (vs : List Value) → values_at kind place (messages_to other places vs) ≡ []
none-other kind other place differs [] vs = refl
none-other kind other place differs (p ∷ places) [] = refl
none-other kind other place differs (p ∷ places) (v ∷ vs) = none-step kind other place differs p v (messages_to other places vs) (none-other kind other place differs places vs)

pub exact-other : (r : Reduce) (kind other place : ℕ) (ms : List Message) (places : List ℕ) (vs : List Value) → (other ≡ kind → ⊥) →
    exact_of r (values_at kind place (ms ++ messages_to other places vs)) ≡ exact_of r (values_at kind place ms)
exact-other r kind other place ms places vs differs =
    ap (exact_of r) (values-append kind place ms (messages_to other places vs) ∙ ap (λ more. values_at kind place ms ++ more) (none-other kind other place differs places vs) ∙ append-nil (values_at kind place ms))

-- numbers of values that are held as cells
pub numbers-of : {T : Type 0} (value : T → Value) (cells : List T) → map number_of (map value cells) ≡ map (λ v. number_of (value v)) cells
numbers-of value [] = refl
numbers-of value (c ∷ cells) = ap (λ ns. number_of (value c) ∷ ns) (numbers-of value cells)

pub typed-added : {T : Type 0} (value : T → Value) (r : Reduce) (old new : ℕ → Option Total) (places : List ℕ) (slice items : List T) → slice ≡ items →
    AddsAll r old (placed places (map (λ v. number_of (value v)) slice)) new → AddsAll r old (placed places (map number_of (map value items))) new
typed-added value r old new places slice items is added =
    subst (λ ns. AddsAll r old (placed places ns) new) (ap (map (λ v. number_of (value v))) is ∙ sym (numbers-of value items)) added
