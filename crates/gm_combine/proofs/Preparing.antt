-- The rows of all kinds, one after another.
use Rattle.std.proofs.Common.{◌≡◌, ◌<◌, ◌≤◌, ◌+◌, ℕ, zero, suc, Option, Some, None, List, [], ◌∷◌, ◌++◌, map, length, take, drop, set, get_or, refl, sym, ap, subst, ◌∙◌, arith, ⊎_elim}
use Rattle.std.specs.Prelude.{slice_get}
use Rattle.std.specs.Option.{option_and_then}
use Rattle.std.proofs.Math.Seq.{take-length}
use Rattle.std.proofs.lemmas.Bool.{cases_eq}
use Rattle.std.proofs.lemmas.List.{take_more, map-append, get_or-set_same, get_or-set_other}
use Rattle.gm_value.specs.declared.values.VType.{VType}
use Rattle.gm_combine.specs.declared.rows.KindRow.{KindRow}
use Rattle.gm_combine.specs.declared.typed_rows.NumberRow.{NumberRow}
use Rattle.gm_combine.specs.declared.typed_rows.NumberRow.TheVariants as rows
use Rattle.gm_combine.specs.declared.typed_rows.TypedRow.{TypedRow}
use Rattle.gm_combine.specs.declared.typed_rows.TypedRow.TheVariants as typed
use Rattle.gm_combine.specs.Rows.{Holds, RowHolds}
use Rattle.gm_combine.specs.Held.{row_at, IsRow, IsKindRow, type_held}

-- what holds of all rows holds with one more
pub push-each : (P : Option KindRow → Type 0) (kinds : List (Option KindRow)) (row : Option KindRow) → P row → ((k : ℕ) → P (row_at kinds k)) → (k : ℕ) → P (row_at (kinds ++ row ∷ []) k)
push-each P [] row p all zero = p
push-each P [] row p all (suc k) = all (suc k)
push-each P (x ∷ kinds) row p all zero = all zero
push-each P (x ∷ kinds) row p all (suc k) = push-each P kinds row p (λ j. all (suc j)) k

pub maps-more : {A B C : Type 0} (f : A → C) (g : B → C) (rows : List A) (kinds : List B) (i : ℕ) (row : A) (kind : B) →
    map f rows ≡ map g (take i kinds) → f row ≡ g kind → i < length kinds → kind ≡ get_or kinds i kind → map f (rows ++ row ∷ []) ≡ map g (take (i + 1) kinds)
maps-more f g rows kinds i row kind before same here is =
    map-append f rows (row ∷ [])
    ∙ ap (λ xs. xs ++ f row ∷ []) before
    ∙ ap (λ x. map g (take i kinds) ++ x ∷ []) (same ∙ ap g is)
    ∙ sym (map-append g (take i kinds) (get_or kinds i kind ∷ []))
    ∙ ap (map g) (sym (take_more kinds i kind here))

pub maps-at : {A B C : Type 0} (f : Option A → Option C) (g : B → Option C) (rows : List (Option A)) (kinds : List B) → f None ≡ None → map f rows ≡ map g kinds →
    (k : ℕ) → f (get_or rows k None) ≡ option_and_then g (slice_get kinds k)
maps-at f g [] [] none same k = none
maps-at f g [] (x ∷ kinds) none same k = absurd (let l = ap length same in omega (arith, l))
maps-at f g (r ∷ rows) [] none same k = absurd (let l = ap length same in omega (arith, l))
maps-at f g (r ∷ rows) (x ∷ kinds) none same zero = ap (λ xs. get_or xs 0 None) same
maps-at f g (r ∷ rows) (x ∷ kinds) none same (suc k) = maps-at f g rows kinds none (ap (drop 1) same) k

pub take-whole : {A : Type 0} (xs : List A) (i : ℕ) → length xs ≤ i → i ≤ length xs → take i xs ≡ xs
take-whole xs i low high = let e : i ≡ length xs = omega (arith, low, high) in ap (λ n. take n xs) e ∙ take-length xs

-- a kind that has a row is one of the kinds
pub some-within : (kinds : List (Option KindRow)) (k : ℕ) (t : VType) → type_held (row_at kinds k) ≡ Some t → k < length kinds
some-within [] k t is = absurd (cc is)
some-within (x ∷ kinds) zero t is = omega arith
some-within (x ∷ kinds) (suc k) t is = let h = some-within kinds k t is in omega (arith, h)

-- what is the same of the new row is the same of all
pub same-held : {B : Type 0} (f : Option KindRow → B) (kinds : List (Option KindRow)) (k : ℕ) (new : Option KindRow) → k < length kinds → f new ≡ f (row_at kinds k) →
    (n : ℕ) → f (row_at (set kinds k new) n) ≡ f (row_at kinds n)
same-held f kinds k new here same n = ⊎_elim this other (cases_eq n k) where
  this : n ≡ k → f (row_at (set kinds k new) n) ≡ f (row_at kinds n)
  this is = ap (λ m. f (row_at (set kinds k new) m)) is ∙ ap f (get_or-set_same kinds k new None here) ∙ same ∙ ap (λ m. f (row_at kinds m)) (sym is)

  other : (n ≡ k → ⊥) → f (row_at (set kinds k new) n) ≡ f (row_at kinds n)
  other differs = ap f (get_or-set_other kinds k n new None differs)

-- a row that holds so many messages holds more
holds-more : {T : Type 0} (row : NumberRow T) (m n : ℕ) → Holds row m → Holds row (m + n)
holds-more (rows.Least row) m n holds = holds
holds-more (rows.Greatest row) m n holds = holds
holds-more (rows.Sums row) m n holds = record {
  as_many = holds.as_many;
  as_marked = holds.as_marked;
  few = λ place. let few = holds.few place in omega (arith, few);
  low_none = holds.low_none;
  carried_none = holds.carried_none;
}
holds-more (rows.Products row) m n holds = holds

row-holds-more : (row : TypedRow) (m n : ℕ) → RowHolds row m → RowHolds row (m + n)
row-holds-more (typed.Ints row) m n holds = holds-more row m n holds
row-holds-more (typed.Longs row) m n holds = holds-more row m n holds
row-holds-more (typed.Flags row) m n holds = holds-more row m n holds
row-holds-more (typed.Nodes row) m n holds = holds-more row m n holds

is-row-more : (row : Option KindRow) (w m n : ℕ) → IsRow w m row → IsRow w (m + n) row
is-row-more None w m n is = tt
is-row-more (Some k) w m n is = record { serves = is.serves; wide = is.wide; holds = row-holds-more k.row m n is.holds }

pub rows-after : (kinds : List (Option KindRow)) (k : ℕ) (new : Option KindRow) (w m n : ℕ) → k < length kinds → IsRow w (m + n) new → ((j : ℕ) → IsRow w m (row_at kinds j)) →
    (j : ℕ) → IsRow w (m + n) (row_at (set kinds k new) j)
rows-after kinds k new w m n here is all j = ⊎_elim this other (cases_eq j k) where
  this : j ≡ k → IsRow w (m + n) (row_at (set kinds k new) j)
  this e = subst (λ i. IsRow w (m + n) (row_at (set kinds k new) i)) (sym e) (subst (IsRow w (m + n)) (sym (get_or-set_same kinds k new None here)) is)

  other : (j ≡ k → ⊥) → IsRow w (m + n) (row_at (set kinds k new) j)
  other differs = subst (IsRow w (m + n)) (sym (get_or-set_other kinds k j new None differs)) (is-row-more (row_at kinds j) w m n (all j))
